-- Document 01's root on paper, listed.
use Rattle.std.specs.Prelude.{Some}
use Prim.Native.Nat.{ℕ}
use mathlib.Core.Path.{◌≡◌, refl, ap, ◌∙◌}
use mathlib.Core.List.{List, [], ◌∷◌, ◌++◌}
use native.Mathlib.Omega.{arith}
use Rattle.wire.specs.Parse.{got}
use Rattle.wire.specs.Number.{number_bytes, groups}
use Rattle.wire.specs.Time.{time, epoch}
use Rattle.wire.specs.Orders.{by_number, by_bytes}
use Rattle.wire.specs.Rows.{insert, set, lookup, remove}
use Rattle.wire.specs.Maps.{empty, put, get, merge, over, keep}
use Rattle.image.specs.Meaning.{directory, Node, Store}
use Rattle.image.specs.KindLayout.{kind}
use Rattle.image.specs.NodeLayout.{meta, node}
use Rattle.image.specs.StoreLayout.{batches, store}
use Rattle.image.specs.RoundTrip.{read_image}
use Rattle.image.proofs.RoundTrip.{one-image}
use Rattle.rules.specs.Stacks.{over_base}
use Rattle.rules.specs.Queue.{fold_all, snapshot}
use Rattle.rules.proofs.Asked.{over-fine}
use Rattle.lines.specs.Digits.{digits, decimal, octal}
use Rattle.lines.specs.Lines.{heading, lines_of, listing, listing_bytes}

-- "01 01 00 ED 03 02 00 .."
abbrev pub root_image : List ℕ
root_image = 1 ∷ 1 ∷ 0 ∷ 0xED ∷ 3 ∷ 2 ∷ 0 ∷ 0 ∷ 0 ∷ 0 ∷ 0 ∷ 0 ∷ 0 ∷ 0 ∷ 0 ∷ 1 ∷ 0 ∷ 0 ∷ 0 ∷ 1 ∷ 0 ∷ 0 ∷ 0 ∷ []

abbrev root_node : Node
root_node = record {
  meta = record { perm = 0o755; links = 2; owner = 0; group = 0; atime = epoch; mtime = epoch; ctime = epoch; attributes = empty by_bytes };
  body = directory 1 (empty by_bytes);
}

abbrev root_store : Store
root_store = over_base 1 (put by_number 1 (Some root_node) (empty by_number))

root-read : read_image root_image ≡ got root_store []
unfolding store batches node meta kind time empty put set insert number_bytes groups
root-read = (one-image root_store (omega arith)).0

-- "gives INODE T MODE LINKS SIZE, 1 d 0755 2 0"
pub root-listed : listing_bytes root_image
    ≡ heading ++ (0x31 ∷ 0x20 ∷ 0x64 ∷ 0x20 ∷ 0x30 ∷ 0x37 ∷ 0x35 ∷ 0x35 ∷ 0x20 ∷ 0x32 ∷ 0x20 ∷ 0x30 ∷ 0x0A ∷ [])
unfolding store batches node meta kind time empty put set insert number_bytes groups snapshot fold_all keep merge over get lookup remove lines_of digits
root-listed = ap listing (over-fine _ root_image (omega arith) root-read) ∙ refl

-- digits at their limits
pub zero-decimal : decimal 0 ≡ 0x30 ∷ []
unfolding digits
zero-decimal = refl

pub zero-octal : octal 0 ≡ 0x30 ∷ 0x30 ∷ 0x30 ∷ 0x30 ∷ []
unfolding digits
zero-octal = refl

pub long-octal : octal 0o100644 ≡ 0x31 ∷ 0x30 ∷ 0x30 ∷ 0x36 ∷ 0x34 ∷ 0x34 ∷ []
unfolding digits
long-octal = refl
