-- Document 01's images on paper.
use Rattle.std.specs.Prelude.{Some}
use Prim.Native.Nat.{ℕ}
use mathlib.Core.Path.{◌≡◌, refl}
use mathlib.Core.List.{List, [], ◌∷◌}
use native.Mathlib.Omega.{arith}
use Rattle.wire.specs.declared.fault.Fault.TheVariants.{Ended}
use Rattle.wire.specs.Parse.{fault, got}
use Rattle.wire.specs.Number.{number_bytes, groups}
use Rattle.wire.specs.Time.{time, epoch}
use Rattle.wire.specs.Orders.{by_number, by_bytes}
use Rattle.wire.specs.Maps.{empty, put}
use Rattle.wire.specs.Rows.{insert, set}
use Rattle.image.specs.Meaning.{directory, Node, Base, Store}
use Rattle.image.specs.Fits.{FitsStore}
use Rattle.image.specs.KindLayout.{kind}
use Rattle.image.specs.NodeLayout.{meta, node}
use Rattle.image.specs.StoreLayout.{batches, store}
use Rattle.image.specs.RoundTrip.{read_image, write_image}
use Rattle.image.proofs.RoundTrip.{one-image, cut-image}

-- a base, and nothing above it
abbrev alone : Base → Store
alone b = record { base = b; batches = []; live = empty by_number; next = 1; bytes = 0; operations = 0; request = 0 }

-- an image that a store is written as is read as that store
image-of : (s : Store) (image : List ℕ) → FitsStore s → write_image s ≡ image → read_image image ≡ got s []
image-of s image h e = rw (← e) (one-image s h).0

-- P1: `00 00 00 01 00 00 00` is the empty store
P1 : read_image (0 ∷ 0 ∷ 0 ∷ 1 ∷ 0 ∷ 0 ∷ 0 ∷ []) ≡ got (alone (empty by_number)) []
unfolding store batches empty number_bytes groups
P1 = image-of (alone (empty by_number)) _ (omega arith) refl

-- P2: without its last byte it has ended
P2 : read_image (0 ∷ 0 ∷ 0 ∷ 1 ∷ 0 ∷ 0 ∷ []) ≡ fault Ended
P2 = cut-image (0 ∷ 0 ∷ 0 ∷ 1 ∷ 0 ∷ 0 ∷ []) (0 ∷ []) _ P1 (λ e. cc)

abbrev root_node : Node
root_node = record {
  meta = record { perm = 0o755; links = 2; owner = 0; group = 0; atime = epoch; mtime = epoch; ctime = epoch; attributes = empty by_bytes };
  body = directory 1 (empty by_bytes);
}

-- the root on paper: inode 1 alone, a directory with permission 755 and 2 links
root : read_image (1 ∷ 1 ∷ 0 ∷ 0xED ∷ 3 ∷ 2 ∷ 0 ∷ 0 ∷ 0 ∷ 0 ∷ 0 ∷ 0 ∷ 0 ∷ 0 ∷ 0 ∷ 1 ∷ 0 ∷ 0 ∷ 0 ∷ 1 ∷ 0 ∷ 0 ∷ 0 ∷ [])
    ≡ got (alone (put by_number 1 (Some root_node) (empty by_number))) []
unfolding store batches node meta kind time empty put set insert number_bytes groups
root = image-of (alone (put by_number 1 (Some root_node) (empty by_number))) _ (omega arith) refl
