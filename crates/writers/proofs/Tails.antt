-- The end of an image, read with a test of its next id, is what is read without it.
-- Assumes nothing.
use Rattle.std.specs.Prelude.{◌≡◌, refl, Bool, List, ℕ}
use Rattle.wire.specs.Parse.{got}
use Rattle.wire.specs.Codec.{OneForm}
use Rattle.wire.specs.Combinators.{◌then◌, only}
use Rattle.wire.specs.Number.{number_to}
use Rattle.wire.proofs.OneForm.{then-one, only-one}
use Rattle.wire.proofs.NumberForms.{number_to-one}
use Rattle.image.specs.Meaning.{Batch}
use Rattle.image.specs.FieldLayout.{inode, word}
use Rattle.image.specs.StoreLayout.{ids_below, next_id}
use Rattle.image.proofs.OneForm.{inode-one, word-one}
use Rattle.writers.specs.Tails.{TailParts, tail, tail_if}

pub tail-one : OneForm tail
tail-one = then-one inode _ inode-one (then-one word _ word-one (then-one word (number_to 5 refl) word-one (number_to-one 5 refl)))

pub tail_if-one : (test : ℕ → Bool) → OneForm (tail_if test)
tail_if-one test =
    then-one (only test inode) _ (only-one test inode inode-one)
    (then-one word _ word-one (then-one word (number_to 5 refl) word-one (number_to-one 5 refl)))

-- what is read with a test is read without it
pub tail-read : (test : ℕ → Bool) (s : List ℕ) (t : TailParts) (r : List ℕ) → (tail_if test).read s ≡ got t r → tail.read s ≡ got t r
tail-read test s t r e =
    let f = (tail_if-one test).forth s t r e in
    rw f.0 (tail.back t r (f.1.0.0, f.1.1))

-- as the store is read
pub store_tail : (bs : List Batch) (s : List ℕ) (t : TailParts) (r : List ℕ) → (next_id bs then word then word then number_to 5 refl).read s ≡ got t r
    → tail.read s ≡ got t r
store_tail bs s t r e = tail-read (ids_below bs) s t r e
