-- The rows of a list, as its count is read: for the function that answers them, and for those who call it.
-- Assumes nothing.
use mathlib.Core.Path.{◌≡◌, refl, sym, ◌∙◌}
use mathlib.Core.List.{List}
use Rattle.std.specs.Prelude.{Result, Ok, Err}
use Rattle.std.specs.Result.{result_unwrap_or}
use Prim.Native.Nat.{ℕ}
use native.Mathlib.Omega.{arith}
use lib.ListN.{drop}
use Rattle.wire.specs.declared.fault.Fault.{Fault}
use Rattle.wire.specs.Parse.{Parsed, fault, got, never-got}
use Rattle.wire.specs.Number.{number_read}
use Rattle.wire.specs.Reading.{Reads}
use Rattle.wire.proofs.Readers.{number-most}
use Rattle.image.specs.Rows.{RowsAt}
use Rattle.image.specs.declared.rows.Rows.{Rows}

-- what the function promises, by the number that it read
pub rows_counted : {img : List ℕ} {most at : ℕ} {r : ℕ × ℕ} (o : Result (ℕ × ℕ) Fault) → Reads img (number_read most) at o → r ≡ result_unwrap_or o (0, 0)
    → RowsAt img most at (record { first = r.1; count = r.0 })
rows_counted {img} {most} {at} (Ok (n, m)) a e =
    let same : (k : ℕ) (s : List ℕ) → number_read most (drop at img) ≡ got k s → (n ≡ k) × (drop m img ≡ s) = λ k s d.
    let z : got n (drop m img) ≡ got k s = sym a.same ∙ d in (cc, cc) in
    let never : (f : Fault) → number_read most (drop at img) ≡ fault f → (n ≡ 0) × (m ≡ 0) = λ f d.
    let z : ◌≡◌ {A = Parsed ℕ} (fault f) (got n (drop m img)) = sym d ∙ a.same in never-got z in
    rw e (record { counted = same; uncounted = never; within = a.within; few = number-most a refl })
rows_counted {img} {most} {at} (Err f) a e =
    let never : (k : ℕ) (s : List ℕ) → number_read most (drop at img) ≡ got k s → (0 ≡ k) × (drop 0 img ≡ s) = λ k s d.
    let z : ◌≡◌ {A = Parsed ℕ} (fault f) (got k s) = sym a.same ∙ d in never-got z in
    rw e (record { counted = never; uncounted = λ f d. (refl, refl); within = omega arith; few = omega arith })

-- and back: the number that was read
pub rows-read : {img : List ℕ} {most at : ℕ} {r : Rows} → RowsAt img most at r
    → (o : Result (ℕ × ℕ) Fault) × Reads img (number_read most) at o × ((r.count, r.first) ≡ result_unwrap_or o (0, 0))
rows-read {img} {most} {at} {r} h = go (number_read most (drop at img)) refl
  where
    go : (p : Parsed ℕ) → number_read most (drop at img) ≡ p → (o : Result (ℕ × ℕ) Fault) × Reads img (number_read most) at o ×
        ((r.count, r.first) ≡ result_unwrap_or o (0, 0))
    go (got n s) e = let z = h.counted n s e in (Ok (n, r.first), record { same = rw z.1 e; within = h.within }, rw (z.0) refl)
    go (fault f) e = let z = h.uncounted f e in (Err f, record { same = e; within = tt }, rw (z.0, z.1) refl)
