-- Document 01's plain table: "Its table holds nodes by inode, as a base does; it is fed the calls alone: which call, its arguments other
-- than image and target, and whether it was refused."
use Rattle.std.specs.Prelude.{List, [], ◌∷◌, Bool, true, false, ℕ, None, Option, Some}
use Rattle.wire.specs.declared.time.Time.{Time}
use Rattle.wire.specs.Orders.{by_bytes}
use Rattle.wire.specs.Maps.{put}
use Rattle.image.specs.Meaning.{Text, Entries, Body, Meta, Node, Base, Fields, Store, directory, file, symlink, special}
use Rattle.rules.specs.Initial.{Initial}
use Rattle.rules.specs.Fold.{on_meta, fold_record}
use Rattle.rules.specs.Answers.{Answer}
use Rattle.rules.specs.Stacks.{layers, alone}
use Rattle.rules.specs.Asks.{Ask, Reply, ask}
use Rattle.rules.specs.Calls.{Call}
use Rattle.rules.specs.Changes.{alter, map_if}
use Rattle.rules.specs.Queue.{fold_all}

abbrev pub Table : Type 0
Table = Base

-- a change of a directory, part by part
pub record NodeChange : Type 0 where
  pub parent : ℕ → ℕ
  pub entries : Entries → Entries
  pub meta : Meta → Meta

abbrev pub stamp_meta : Time → Meta → Meta
stamp_meta t m = record { perm = m.perm; links = m.links; owner = m.owner; group = m.group; atime = m.atime; mtime = t; ctime = t; attributes = m.attributes }

-- "Add: the name leads to the inode given; remove: the name is gone; both set mtime and ctime. Set parent: the parent given."
abbrev pub naming : Text → Option ℕ → Time → NodeChange
naming name inode t = record { parent = λ p. p; entries = put by_bytes name inode; meta = stamp_meta t }

abbrev pub parenting : ℕ → NodeChange
parenting q = record { parent = λ p. q; entries = λ es. es; meta = λ m. m }

module _ (N : NodeChange) where
  abbrev pub change_body : Body → Body
  change_body (directory p es) = directory (N.parent p) (N.entries es)
  change_body (file size) = file size
  change_body (symlink target) = symlink target
  change_body (special device) = special device

  abbrev pub change_node : Node → Node
  change_node n = record { meta = N.meta n.meta; body = change_body n.body }

-- "Update: fields and attributes as by fold, if there is a node."
abbrev pub update_node : Fields → Node → Node
update_node new n = record { meta = on_meta new n.meta; body = n.body }

-- a call that the table is told of
pub record Told : Type 0 where
  pub call : Call
  pub refused : Bool

module _ (initial : Initial) where
  -- "It starts as the base with every layer folded in, front first, live last."
  abbrev pub table_of : Store → Table
  table_of s = fold_all initial (layers s) s.base

  -- "Insert: the node fold makes of the delta on nothing. Tombstone: node gone. All others: nothing."
  unfoldable pub effect : Call → Table → Table
  effect (Call.insert i None) t = t
  effect (Call.insert i (Some r)) t = alter i (λ n. fold_record initial r None) t
  effect (Call.tombstone i) t = alter i (λ n. None) t
  effect (Call.add i name inode time) t = alter i (map_if (change_node (naming name (Some inode) time))) t
  effect (Call.remove i name time) t = alter i (map_if (change_node (naming name None time))) t
  effect (Call.set_parent i p) t = alter i (map_if (change_node (parenting p))) t
  effect (Call.update i None) t = t
  effect (Call.update i (Some new)) t = alter i (map_if (update_node new)) t
  effect (Call.normalise p) t = t
  effect (Call.freeze limits time) t = t
  effect Call.fold t = t
  effect (Call.pop id) t = t
  effect (Call.note n) t = t
  effect (Call.request r) t = t

  -- "All others, and refused calls: nothing."
  abbrev pub tell : Bool → Call → Table → Table
  tell true c t = t
  tell false c t = effect c t

  unfoldable pub tell_all : List Told → Table → Table
  tell_all [] t = t
  tell_all (m ∷ ms) t = tell_all ms (tell m.refused m.call t)

  -- "Reads: by the rules above, as of a base alone, however long; 3 and 5 alike, 1 and 2 never."
  abbrev pub ask_table : (q : Ask) → Table → Answer (Reply q)
  ask_table q t = ask initial q (alone t)
