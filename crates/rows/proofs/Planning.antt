-- What a listing answers, and that its rows are filled one after the other.
-- Assumes nothing.
use Rattle.std.specs.Prelude.{Result, Ok, Err, None, Option, Some, IsSome}
use mathlib.Core.Path.{◌≡◌, refl, sym, ap, ◌∙◌}
use mathlib.Core.Bool.{Bool, true, false, cond}
use mathlib.Core.List.{List, [], ◌∷◌, ◌++◌, map, append_assoc}
use Prim.Native.Nat.{ℕ, suc, ◌+◌, ◌≤◌, ◌<◌}
use native.Mathlib.Omega.{arith}
use native.Mathlib.Numerals.{add-one}
use lib.Dec.{ltb}
use lib.ListN.{length, take, drop, get_or, set, length-append, length-drop, length-map}
use lib.Seq.{drop-cons, take-suc, set_at, length-take-le}
use borrow.Author.Tests.{ltb-false}
use Rattle.stack.specs.declared.stack.Stack.{Stack}
use Rattle.merge.specs.Merges.{rows_decided, row_of_given, with_first, Gives, count_of}
use Rattle.merge.specs.declared.sources.Sources.{Sources}
use Rattle.merge.specs.declared.merge.Row.{Row as GivenRow}
use Rattle.gather.specs.Gathers.{Gathers}
use Rattle.gather.specs.declared.gather.Listing.{Listing}
use Rattle.std.specs.Option.{ok_or}
use Rattle.survey.specs.declared.refusal.Refusal.{Refusal}
use Rattle.survey.specs.declared.refusal.Refusal.TheVariants.{NoRoom}
use Rattle.rows.specs.Listings.{rows_in}
use Rattle.rows.specs.Plans.{entry_of, plan_rows, PlansRows, plan_entries}
use Rattle.rows.specs.declared.listing.Entry.{Entry}
use Rattle.rows.specs.declared.plan.Plan.{Plan}
use Rattle.rows.proofs.Decide.{gathered-rows}

-- ---- room for the rows

counted-rows : (room count n : ℕ) → count_of count room ≡ Some n → (ltb room count ≡ false) × (count ≡ n)
counted-rows room count n = go (ltb room count) refl
  where
    go : (b : Bool) → ltb room count ≡ b → cond b None (Some count) ≡ Some n → (ltb room count ≡ false) × (count ≡ n)
    go true h e = absurd (let z : ◌≡◌ {A = ℕ} 0 1 = cc in omega arith)
    go false h e = (h, cc)

counted-many : (room count : ℕ) → count_of count room ≡ None → ltb room count ≡ true
counted-many room count = go (ltb room count) refl
  where
    go : (b : Bool) → ltb room count ≡ b → cond b None (Some count) ≡ None → ltb room count ≡ true
    go true h e = h
    go false h e = absurd (let z : ◌≡◌ {A = ℕ} 0 1 = cc in omega arith)

given-some : (o : Option ℕ) (e : Refusal) {n : ℕ} → ok_or o e ≡ Ok n → o ≡ Some n
given-some None e h = cc
given-some (Some x) e h = cc

given-none : (o : Option ℕ) (e : Refusal) {f : Refusal} → ok_or o e ≡ Err f → (o ≡ None) × (f ≡ e)
given-none None e h = (refl, cc)
given-none (Some x) e h = cc

module _ {s : Stack} (l : Listing) {all : Sources} (g : Gathers s l None all) (room : ℕ) {c : Option ℕ}
    (k : c ≡ count_of (length (rows_decided all)) room) {made : Result ℕ Refusal} (m : made ≡ ok_or c NoRoom) where
  counted : {n : ℕ} → made ≡ Ok n → (ltb room (length (rows_decided all)) ≡ false) × (length (rows_decided all) ≡ n)
  counted {n} e = counted-rows room (length (rows_decided all)) n (sym k ∙ given-some c NoRoom (sym m ∙ e))

  pub planned : {n : ℕ} → made ≡ Ok n → (p : Plan) → p.all ≡ all → p.count ≡ n → PlansRows (rows_in l s) room (Ok p)
  planned {n} e p d x =
      let z = counted e in
      let low = ltb-false room (length (rows_decided all)) z.0 in
      rw (← gathered-rows l g) (record { answers = rw (d, z.0); fits = omega (arith, low, z.1, x) })

  pub planned-few : {f : Refusal} → made ≡ Err f → {r : Result Plan Refusal} → r ≡ Err f → PlansRows (rows_in l s) room r
  planned-few e d =
      let z = given-none c NoRoom (sym m ∙ e) in
      rw (d, z.1, ← gathered-rows l g) (record { answers = rw (counted-many room (length (rows_decided all)) (sym k ∙ z.0)); fits = tt })

-- ---- rows filled from the front: so far i of them

module _ (new old : List Entry) where
  abbrev pub filled_to : ℕ → List Entry
  filled_to i = take i new ++ drop i old

  pub filled-length : (i : ℕ) → i ≤ length new → length new ≤ length old → length (filled_to i) ≡ length old
  filled-length i h k = omega (arith, length-append (take i new) (drop i old), length-take-le i new h, length-drop i old)

  filled-one : (i : ℕ) (e : Entry) → i < length new → length new ≤ length old → drop i new ≡ e ∷ drop (suc i) new → set (filled_to i) i e ≡ filled_to (i + 1)
  filled-one i e h k d =
      let n = drop-cons new i e h in
      let z : get_or new i e ≡ e = cc in
      let o = drop-cons old i e (omega arith) in
      rw (o, add-one, take-suc new i e h, z)
      (set_at (take i new) (get_or old i e) (drop (suc i) old) e i (length-take-le i new (omega arith))
      ∙ sym (append_assoc (take i new) (e ∷ []) (drop (suc i) old)))

-- the rows from the i-th on are left
pub record Going (es : List Entry) (i : ℕ) (all : Sources) : Type 0 where
  pub left : map entry_of (rows_decided all) ≡ drop i es

module _ {es : List Entry} {i : ℕ} {all rest : Sources} (g : Going es i all) (h : i < length es) {o : Option GivenRow} (t : Gives all o rest) where
  pub going-given : IsSome o
  going-given = go o (ap (map entry_of) t.rows)
    where
      go : (o : Option GivenRow) → map entry_of (rows_decided all) ≡ map entry_of (with_first row_of_given o (rows_decided rest)) → IsSome o
      go (Some x) e = refl
      go None e = absurd (omega (arith, ap length (sym g.left ∙ e), length-drop i es))

  module _ {x : GivenRow} (d : o ≡ Some x) where
    going-row : drop i es ≡ entry_of (row_of_given x) ∷ map entry_of (rows_decided rest)
    going-row = sym g.left ∙ rw (t.rows, d)

    rest-is : map entry_of (rows_decided rest) ≡ drop (suc i) es
    rest-is = let d = drop-cons es i (entry_of (row_of_given x)) h in cc going-row

    pub going-filled : (old : List Entry) → length es ≤ length old → set (filled_to es old i) i (entry_of (row_of_given x)) ≡ filled_to es old (i + 1)
    going-filled old k = filled-one es old i (entry_of (row_of_given x)) h k (rw rest-is at going-row)

    pub going_more : Going es (i + 1) rest
    going_more = record { left = rw add-one rest-is }

-- ---- all rows

pub target-length : (p : Plan) → length (plan_entries p) ≡ p.count
target-length p = length-map (plan_rows p) entry_of ∙ p.counted
