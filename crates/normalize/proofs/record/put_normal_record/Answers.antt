use Rattle.std.proofs.Common.{rules}
use Rattle.normalize.proofs.Recording.{below-stacked, top-tombstone, top-other, top-directory}
use Rattle.normalize.proofs.record.put_normal_record.Goals.{in_default-via-in-Node+in_default, in_default-via-in_default}
use Rattle.normalize.proofs.record.put_normal_record.Goals as goal

pub returns-in_default : goal.returns-in_default
returns-in_default c =
    elim c.in_default.branch [
      | in_default-via-in-Node+in_default w ↦
          top-other c.args.stack c.requires c.record.result c.record.ensures w.in_default.is (λ d e. search rules) c.put_record.ensures
      | in_default-via-in_default w ↦ top-tombstone c.args.stack c.requires c.record.result c.record.ensures w.in_default.is c.put_record.ensures
    ]

pub invariant_of-below : goal.invariant_of-below
invariant_of-below c = record { stacked = below-stacked c.args.stack c.requires }

pub returns : goal.returns
returns c =
    top-directory c.args.stack c.requires c.record.result c.record.ensures c.in-Node-Directory.is c.in-Node-Directory.field-0-is
    c.put_normal_directory.ensures
