-- The loop that writes and counts the rows that sources give.
-- Assumes nothing.
use mathlib.Core.Path.{◌≡◌, refl, sym, ap, ◌∙◌}
use Rattle.std.specs.Prelude.{None, Option, Some}
use mathlib.Core.List.{List, []}
use Prim.Native.Nat.{ℕ, ◌+◌, ◌≤◌, ◌<◌}
use native.Mathlib.Omega.{arith}
use mir.Syntax.{w64}
use mir.Val.{Fits}
use lib.ListN.{length}
use Rattle.wire.specs.Number.{edge}
use Rattle.wire.specs.Put.{Put}
use Rattle.wire.proofs.Puts.{put-append, put-length}
use Rattle.writers.proofs.Writing.{put-nothing}
use Rattle.merge.specs.Merges.{given_in, given_of_row, Gives}
use Rattle.merge.specs.declared.sources.Sources.{Sources}
use Rattle.merge.specs.declared.merge.Row.{Row}
use Rattle.gather.specs.declared.gather.Listing.{Listing}
use Rattle.fold.specs.Lists.{row_given, rows_given, PutsRows}

-- one row less
one-given : {rest next : Sources} {o : Option Row} {x : Row} → Gives rest o next → o ≡ Some x → length (given_in rest) ≡ 1 + length (given_in next)
one-given t e = ap length (rw e at t.gives) ∙ omega arith

-- what is left, written from i on, makes the whole; k were written
pub record Writing (l₀ : List ℕ) (at : ℕ) (n : Listing) (all rest : Sources) (l : List ℕ) (i k : ℕ) : Type 0 where
  pub image : rest.img.now ≡ all.img.now
  pub long : length l ≡ length l₀
  pub low : i ≤ edge
  pub on : (r : ℕ) (m : List ℕ) → Put l i (rows_given n (given_in rest)) r m → Put l₀ at (rows_given n (given_in all)) r m
  pub counts : length (given_in all) ≡ k + length (given_in rest)

pub writing-none : {l₀ : List ℕ} {at : ℕ} {n : Listing} (all : Sources) → Fits w64 at → Writing l₀ at n all all l₀ at 0
writing-none all f = record { image = refl; long = refl; low = omega (arith, f.fits); on = λ r k p. p; counts = omega arith }

module _ {l₀ : List ℕ} {at : ℕ} {n : Listing} {all rest next : Sources} {l : List ℕ} {i k : ℕ} (g : Writing l₀ at n all rest l i k)
    {o : Option Row} (t : Gives rest o next) where
  module _ {x : Row} (e : o ≡ Some x) where
    pub writing-room : length (given_in all) ≤ edge → k + 1 ≤ edge
    writing-room few = omega (arith, few, g.counts, one-given t e)

    pub writing_more : {j : ℕ} {m : List ℕ} → Put l i (row_given n (given_of_row all.img.now x)) j m → Writing l₀ at n all next m j (k + 1)
    unfolding rows_given
    writing_more {j} {m} w =
        let z : next.img.now ≡ all.img.now = t.image ∙ g.image in
        let w = rw (← z) at w in
        record {
          image = z;
          long = put-length w ∙ g.long;
          low = omega (arith, w.to);
          on = λ r q p. g.on r q (rw (t.gives, e) (put-append w p));
          counts = omega (arith, g.counts, one-given t e);
        }

  pub writing-all : o ≡ None → length l₀ < edge → PutsRows all n l₀ at (record { end = i; count = k }) l
  unfolding rows_given
  writing-all e b =
      let z : given_in rest ≡ [] = rw e at t.gives in
      record {
        puts = g.on i l (rw z (put-nothing (omega (arith, g.long)) (record { fits = omega (arith, g.low) })));
        counts = sym (g.counts ∙ rw z (omega arith));
      }
