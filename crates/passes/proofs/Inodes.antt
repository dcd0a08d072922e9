-- The place of what stands under the inode sought.
-- Assumes nothing.
use mathlib.Core.Path.{◌≡◌, refl, sym, ◌∙◌}
use mathlib.Core.Bool.{Bool, true, false}
use mathlib.Core.List.{List}
use Prim.Native.Nat.{ℕ, zero, suc, ◌-◌, ◌≤◌, ◌<◌}
use native.Mathlib.Omega.{arith}
use Rattle.std.specs.Prelude.{Result, Ok, Err, Some, None, Option}
use Rattle.std.specs.Prelude.{Option}
use Rattle.std.specs.Option.{option_or}
use Rattle.std.specs.Bool.{then_some}
use lib.Dec.{eqb}
use lib.ListN.{length, drop, length-drop}
use borrow.Author.Tests.{eqb-true, eqb-false}
use Rattle.wire.specs.declared.fault.Fault.{Fault}
use Rattle.wire.specs.declared.fault.Fault.TheVariants.{Malformed}
use Rattle.std.specs.declared.cmp.Ordering.{Ordering}
use Rattle.std.specs.declared.cmp.Ordering.TheVariants.{Less, Equal, Greater}
use Rattle.wire.specs.Parse.{Parsed, fault, got, bind, check, never-got}
use Rattle.wire.specs.Codec.{Codec}
use Rattle.wire.specs.Combinators.{only}
use Rattle.wire.specs.Number.{edge, number_read}
use Rattle.wire.specs.Orders.{by_number, cmp_n, Says, says, equal-N}
use Rattle.wire.specs.Rows.{choose}
use Rattle.wire.specs.Lists.{after, last_count}
use Rattle.wire.specs.Reading.{Reads}
use Rattle.image.specs.FieldLayout.{inode}
use Rattle.passes.specs.declared.inode.Held.{Held}
use Rattle.passes.specs.Held.{held, Finds, FindsRows}
use Rattle.image.specs.Places.{Ends, place_under}
use Rattle.image.specs.Rows.{ReadsRows}
use Rattle.image.specs.declared.rows.Rows.{Rows}
use Rattle.wire.proofs.Readers.{handed}
use Rattle.image.proofs.OneForm.{inode-one}
use Rattle.image.proofs.Passing.{ends-got, ends-list, ends-unlisted, Passed, passed-unkeyed, passed-stop, passed-all}
use Rattle.passes.proofs.OneForm.{held-one}

abbrev first : Option ℕ → Option ℕ → Option ℕ
first None o = o
first (Some p) o = Some p

place-left : (img : List ℕ) (m : ℕ) → m ≤ length img → length img - length (drop m img) ≡ m
place-left img m h = omega (arith, length-drop m img)

pub key-read : (prev : Option ℕ) (s : List ℕ) {r : List ℕ} {j : ℕ} → (only (after by_number prev) inode).read s ≡ got j r → number_read edge s ≡ got j r
key-read prev s {r} {j} e = go (number_read edge s) e
  where
    judge : (b : Bool) (i : ℕ) (t : List ℕ) → check Malformed b (got i t) ≡ got j r → got i t ≡ got j r
    judge true i t d = d
    judge false i t d = never-got d

    go : (o : Parsed ℕ) → bind o (λ a r. check Malformed (after by_number prev a) (got a r)) ≡ got j r → o ≡ got j r
    go (fault f) d = never-got d
    go (got i t) d = judge (after by_number prev i) i t d

module _ {A : Type 0} (value : Codec A) (img : List ℕ) (sought : ℕ) where
  abbrev placed : ℕ → List ℕ → Option ℕ
  placed = place_under by_number inode value (length img) sought

  -- one row more
  place-step : (n : ℕ) (s : List ℕ) {r q : List ℕ} {j : ℕ} {v : A} → 0 < n → number_read edge s ≡ got j r → value.read r ≡ got v q
      → placed n s ≡ choose (cmp_n sought j) (Some (length img - length r)) (placed (n - 1) q)
  unfolding place_under
  place-step zero s h e d = absurd (omega arith)
  place-step (suc n) s h e d = let z : suc n - 1 ≡ n = omega arith in rw (e, d, z)

  -- the place found, or the one still to be found
  pub record Seeking (start n : ℕ) (place : Option ℕ) (here left : ℕ) : Type 0 where
    pub same : first place (placed left (drop here img)) ≡ placed n (drop start img)

  chosen : (place : Option ℕ) (m : ℕ) (b : Bool) (j : ℕ) (rest : Option ℕ) → eqb j sought ≡ b
      → first place (choose (cmp_n sought j) (Some m) rest) ≡ first (option_or place (then_some b m)) rest
  chosen (Some p) m b j rest e = refl
  chosen None m true j rest e =
      let z : j ≡ sought = eqb-true j sought e in
      rw (equal-N sought j (omega arith) (omega arith))
  chosen None m false j rest e = go (cmp_n sought j) (says sought j)
    where
      go : (o : Ordering) → Says sought j o → choose o (Some m) rest ≡ rest
      go Less k = refl
      go Equal k = absurd (eqb-false j sought e (sym k))
      go Greater k = refl

  module _ {start n here left : ℕ} {place : Option ℕ} (w : Seeking start n place here left) where
    pub seeking-on : (prev : Option ℕ) {j m q rest : ℕ} {here_found found : Option ℕ} → 0 < left → Reads img (only (after by_number prev) inode).read here
        (Ok (j, m))
        → Ends img value.read m (Ok q) → here_found ≡ then_some (eqb j sought) m → found ≡ option_or place here_found → rest ≡ left - 1 → Seeking start n
        found q rest
    seeking-on prev {j} {m} {q} h a g d f z =
        let u = ends-got g in
        rw (f, d, z) (record {
          same =
              sym (chosen place m (eqb j sought) j (placed (left - 1) (drop q img)) refl)
              ∙ sym (rw (place-step left (drop here img) h (key-read prev (drop here img) a.same) u.1, place-left img m a.within) refl)
              ∙ w.same;
        })

    none_left : (k : ℕ) → k ≤ 0 → first place (placed k (drop here img)) ≡ place
    unfolding place_under
    none_left zero h = go place
      where
        go : (p : Option ℕ) → first p None ≡ p
        go (Some x) = refl
        go None = refl
    none_left (suc k) h = absurd (omega arith)

    pub seeking-end : left ≤ 0 → place ≡ placed n (drop start img)
    seeking-end h = sym (none_left left h) ∙ w.same

-- ---- a list, and its rows

module _ {img : List ℕ} {h : Held} {sought : ℕ} where
  module _ {at : ℕ} {o : Result Rows Fault} (c : ReadsRows img last_count at o) where
    pub finds-list : {list : Rows} {r : Result (Option ℕ × ℕ) Fault} → o ≡ Ok list → FindsRows img h sought list.first list.count r → Finds img h sought at r
    finds-list {r = r} d g = record {
      ends = ends-list by_number inode (held h) last_count refl inode-one (held-one h) c d g.ends;
      found = let e = rw d at c in rw (e.same) g.found;
    }

    pub finds-uncounted : {r : Result (Option ℕ × ℕ) Fault} {f : Fault} → o ≡ Err f → r ≡ Err f → Finds img h sought at r
    finds-uncounted d e = rw e (record { ends = ends-unlisted by_number inode (held h) last_count refl inode-one (held-one h) c d refl; found = tt })

  module _ {first n here left : ℕ} {prev : Option ℕ} (p : Passed by_number inode (held h) img first n prev here left) where
    pub finds-all : {place : Option ℕ} → Seeking (held h) img sought first n place here left → left ≤ 0 → FindsRows img h sought first n (Ok (place, here))
    finds-all s l = record { ends = passed-all p l; found = seeking-end (held h) img sought s l }

    module _ (l : 0 < left) {o : Result (ℕ × ℕ) Fault} (a : Reads img (only (after by_number prev) inode).read here o) where
      pub finds-unkeyed : {r : Result (Option ℕ × ℕ) Fault} {f : Fault} → o ≡ Err f → r ≡ Err f → FindsRows img h sought first n r
      finds-unkeyed d e = rw e (record { ends = passed-unkeyed p l a d refl; found = tt })

      pub finds-stop : {k m : ℕ} → o ≡ Ok (k, m) → {u : Result ℕ Fault} → Ends img (held h).read m u → {r : Result (Option ℕ × ℕ) Fault} {f : Fault} → u ≡ Err
          f → r ≡ Err f
          → FindsRows img h sought first n r
      finds-stop d b c e = rw e (record { ends = passed-stop p l a d b c refl; found = tt })

pub ruleset finds = (finds-list, finds-uncounted, finds-all, finds-unkeyed, finds-stop, handed)
