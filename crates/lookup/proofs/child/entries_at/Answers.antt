use Rattle.std.proofs.Common.{rules}
use Rattle.lookup.proofs.Searching.{found-in}
use Rattle.lookup.proofs.Children.{at-other, at-removed, at_added}
use Rattle.lookup.proofs.child.entries_at.Goals as goal
use Rattle.lookup.proofs.child.entries_at.Goals.{in_default-via-in-Node+in_default, in_default-via-in_default}

pub returns-then-layer-eq0 : goal.returns-then-layer-eq0
returns-then-layer-eq0 c = rw c.if-layer-eq0.true (c.base_entries.ensures c.args.name.now)

-- "Other kind: none.", "Tombstone: none."
pub returns-in_default : goal.returns-in_default
returns-in_default c =
    elim c.in_default.branch [
      | in_default-via-in-Node+in_default w ↦
          at-other c.args.stack c.requires c.if-layer-eq0.false c.record.ensures c.args.name.now (rw w.in_default.is (search rules))
          (rw w.in_default.is (search rules))
      | in_default-via-in_default w ↦
          at-other c.args.stack c.requires c.if-layer-eq0.false c.record.ensures c.args.name.now (rw w.in_default.is) (rw w.in_default.is)
    ]

pub returns-in-Some : goal.returns-in-Some
returns-in-Some c =
    at-removed c.args.stack c.requires c.if-layer-eq0.false c.record.ensures c.args.name.now c.in-Node-Directory.is c.in-Node-Directory.field-0-is
    (found-in _ _ _ c.lists_of.ensures.1 c.find.ensures) c.in-Some.is

pub returns-in-None : goal.returns-in-None
returns-in-None c =
    at_added c.args.stack c.requires c.if-layer-eq0.false c.record.ensures c.args.name.now c.in-Node-Directory.is c.in-Node-Directory.field-0-is
    (found-in _ _ _ c.lists_of.ensures.1 c.find.ensures) c.in-None.is c.lists_of.ensures.0
