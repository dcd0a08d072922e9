-- Document 01: "Normalise takes a layer's position (live = number of batches). Each directory delta there is held against the layers below:
-- not existing or not a directory, removed is emptied; else it drops added names that lead to the same inode below and removed names
-- that lead to none."
use Rattle.std.specs.Prelude.{List, [], ◌∷◌, ◌++◌, Bool, false, not, ℕ, zero, suc, eqb, None, Option, Some}
use Rattle.wire.specs.Orders.{by_number, by_bytes}
use Rattle.wire.specs.Maps.{merge, empty, get, keep}
use Rattle.image.specs.Meaning.{Text, Kind, Entries, Names, Base, Change, Record, Layer, Batch, directory, file, symlink, special, tombstone, delta}
use Rattle.rules.specs.Stacks.{stack}
use Rattle.rules.specs.Reads.{look, type, child, is_there}

abbrev pub leads_to : Option ℕ → ℕ → Bool
leads_to None inode = false
leads_to (Some below) inode = eqb below inode

-- `below` is what a name leads to in the layers below
module _ (below : Text → Option ℕ) where
  abbrev pub less_added : Entries → Entries
  less_added added = keep by_bytes (λ name inode. not (leads_to (below name) inode)) added

  abbrev pub less_removed : Names → Names
  less_removed removed = keep by_bytes (λ name u. is_there (below name)) removed

  abbrev pub normal_directory : Option Kind → Option ℕ → Entries → Names → Change
  normal_directory None p added removed = directory p added (empty by_bytes)
  normal_directory (Some directory) p added removed = directory p (less_added added) (less_removed removed)
  normal_directory (Some file) p added removed = directory p added (empty by_bytes)
  normal_directory (Some symlink) p added removed = directory p added (empty by_bytes)
  normal_directory (Some (special s)) p added removed = directory p added (empty by_bytes)

  abbrev pub normal_change : Option Kind → Change → Change
  normal_change k (directory p added removed) = normal_directory k p added removed
  normal_change k (file n) = file n
  normal_change k (symlink t) = symlink t
  normal_change k (special s device) = special s device

  abbrev pub normal_record : Option Kind → Record → Record
  normal_record k tombstone = tombstone
  normal_record k (delta d) = delta (record { fields = d.fields; change = normal_change k d.change })

-- a layer held against layers and a base
unfoldable pub normal_layer : List Layer → Base → Layer → Layer
normal_layer under base l =
    merge by_number
    (λ i r o. Some (normal_record (λ name. look (child name) (stack i under) (get by_number i base)) (look type (stack i under) (get by_number i base)) r))
    l (empty by_number)

abbrev pub normal_batch : List Layer → Base → Batch → Batch
normal_batch under base b = record {
  id = b.id;
  bytes = b.bytes;
  operations = b.operations;
  reason = b.reason;
  committed = b.committed;
  records = normal_layer under base b.records;
}

-- the batches, and live, with the layer at a position normalised
unfoldable pub normal_batches : List Layer → Base → List Batch → ℕ → List Batch
normal_batches under base [] p = []
normal_batches under base (b ∷ bs) zero = normal_batch under base b ∷ bs
normal_batches under base (b ∷ bs) (suc p) = b ∷ normal_batches (under ++ (b.records ∷ [])) base bs p

unfoldable pub normal_live : List Layer → Base → List Batch → ℕ → Layer → Layer
normal_live under base [] zero live = normal_layer under base live
normal_live under base [] (suc p) live = live
normal_live under base (b ∷ bs) zero live = live
normal_live under base (b ∷ bs) (suc p) live = normal_live (under ++ (b.records ∷ [])) base bs p live
