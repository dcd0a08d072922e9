-- The two sorts of lists by inode, and what finding an inode in one answers.
use Rattle.std.specs.Prelude.{◌≡◌, refl, List, ℕ, length, drop, Result, Ok, Err, None, Option}
use Rattle.std.specs.Prelude.{Option}
use Rattle.wire.specs.declared.fault.Fault.{Fault}
use Rattle.wire.specs.Codec.{Codec}
use Rattle.wire.specs.Orders.{by_number}
use Rattle.wire.specs.Lists.{rising, last_count}
use Rattle.image.specs.Meaning.{Node, Record}
use Rattle.image.specs.FieldLayout.{inode as inodeCodec}
use Rattle.image.specs.NodeLayout.{node}
use Rattle.image.specs.RecordLayout.{layer_record}
use Rattle.image.specs.Places.{Ends, rows_from, place_under, place_in}
use Rattle.passes.specs.declared.inode.Held.{Held}
use Rattle.passes.specs.declared.inode.Held.TheVariants as H

abbrev pub HeldUnder : Held → Type 0
HeldUnder H.Node = Node
HeldUnder H.Record = Record

-- "Base: by rising inode", "Records by rising inode"
abbrev pub held : (h : Held) → Codec (HeldUnder h)
held H.Node = node
held H.Record = layer_record

-- where the list ends
abbrev pub end_of : Result (Option ℕ × ℕ) Fault → Result ℕ Fault
end_of (Ok r) = Ok r.1
end_of (Err f) = Err f

-- if the list was read to its end, the place found is this one
abbrev pub Found : Result (Option ℕ × ℕ) Fault → Option ℕ → Type 0
Found (Ok r) o = r.0 ≡ o
Found (Err f) o = Unit {0}

-- a list by inode is passed, and the place of what stands under one inode is found on the way
pub record Finds (img : List ℕ) (h : Held) (sought at : ℕ) (result : Result (Option ℕ × ℕ) Fault) : Type 0 where
  pub ends : Ends img (rising by_number inodeCodec (held h) last_count refl).read at (end_of result)
  pub found : Found result (place_in by_number inodeCodec (held h) img sought at)

-- the same of n rows from `first` on
pub record FindsRows (img : List ℕ) (h : Held) (sought first n : ℕ) (result : Result (Option ℕ × ℕ) Fault) : Type 0 where
  pub ends : Ends img (rows_from by_number inodeCodec (held h) n None) first (end_of result)
  pub found : Found result (place_under by_number inodeCodec (held h) (length img) sought n (drop first img))
