-- How a run is read in the image, row by row, and moved past an inode.
-- Assumes nothing.
use Rattle.std.specs.Prelude.{None, Option, Some, is_some, Result, Ok, Err}
use Rattle.std.specs.Result.{result_ok}
use mathlib.Core.Path.{◌≡◌, refl, sym, ◌∙◌}
use mathlib.Core.List.{List, ◌∷◌}
use Prim.Native.Nat.{ℕ, suc, ◌+◌, ◌-◌, ◌≤◌}
use native.Mathlib.Omega.{arith}
use native.Mathlib.Numerals.{add-one}
use lib.ListN.{drop}
use Rattle.wire.specs.declared.fault.Fault.{Fault}
use Rattle.std.specs.declared.cmp.Ordering.{Ordering}
use Rattle.std.specs.declared.cmp.Ordering.TheVariants.{Less, Equal, Greater}
use Rattle.wire.specs.Parse.{Parsed, fault, got}
use Rattle.wire.specs.Combinators.{◌then◌}
use Rattle.wire.specs.Number.{edge, number_read}
use Rattle.wire.specs.Orders.{by_number, cmp_n, same-N}
use Rattle.wire.specs.Rows.{choose}
use Rattle.wire.specs.Lists.{last_count}
use Rattle.wire.specs.Reading.{Reads, meant}
use Rattle.image.specs.FieldLayout.{inode}
use Rattle.passes.specs.Held.{HeldUnder, held}
use Rattle.image.specs.Places.{Ends}
use Rattle.image.specs.Rows.{RowsAt}
use Rattle.image.specs.declared.rows.Rows.{Rows}
use Rattle.passes.specs.declared.inode.Held.{Held}
use Rattle.image.proofs.Passing.{ends-got, ends-fault}
use Rattle.merge.specs.Pile.{head_if, pass}
use Rattle.walk.specs.Runs.{Piece, piece, Row, rows_if, rows_read, run_rows, Leaves, Sound, RowsOf, ListOf, piece_at, EndsAt, next_of, Moved}
use Rattle.rules.specs.Reads.{is_there}
use Rattle.walk.specs.declared.run.Run.{Run}

-- ---- a row read

-- the first of some rows
rows-first : (h : Held) {n m : ℕ} (s : List ℕ) → n ≡ suc m
    → rows_read h n s ≡ rows_if ((inode then held h).read s) (λ e r. (e.0, piece h e.1) ∷ rows_read h m r)
unfolding rows_read
rows-first h s e = rw e

-- what was read, if it is told as an option
ok-some : {X : Type 0} (o : Result X Fault) {x : X} → result_ok o ≡ Some x → o ≡ Ok x
ok-some (Ok y) e = cc
ok-some (Err f) e = cc

ok-none : {X : Type 0} (o : Result X Fault) → result_ok o ≡ None → (f : Fault) × (o ≡ Err f)
ok-none (Ok y) e = cc
ok-none (Err f) e = (f, refl)

-- an inode is meant by itself
pub read-plain : (o : Result (ℕ × ℕ) Fault) → meant (λ n. n) o ≡ o
read-plain (Ok y) = refl
read-plain (Err f) = refl

module _ {img : List ℕ} (h : Held) {n p : ℕ} where
  pub from-none : (1 ≤ n → ⊥) → {r : Option Run} → r ≡ None → RowsOf img h n p r
  unfolding rows_read
  from-none k d = let z : n ≡ 0 = omega arith in rw (d, z) (record { are = refl; sound = tt })

  module _ (m : ℕ) (k : (1 ≤ n) × (m ≡ n - 1)) {o : Result (ℕ × ℕ) Fault} (a : Reads img (number_read edge) p o) where
    first : rows_read h n (drop p img) ≡ rows_if ((inode then held h).read (drop p img)) (λ e r. (e.0, piece h e.1) ∷ rows_read h m r)
    first = rows-first h (drop p img) (let z : n ≡ m + 1 = omega (arith, k.0, k.1) in z ∙ add-one m)

    pub from-unread : result_ok o ≡ None → {r : Option Run} → r ≡ None → RowsOf img h n p r
    from-unread d e = let g = rw (ok-none o d).1 at a in rw e (record { are = rw (first, g.same); sound = tt })

    module _ {i q : ℕ} (d : result_ok o ≡ Some (i, q)) {u : Result ℕ Fault} (v : Ends img (held h).read q u) where
      pub from-stop : result_ok u ≡ None → {r : Option Run} → r ≡ None → RowsOf img h n p r
      from-stop c e =
          let g = rw (ok-some o d) at a in
          rw e (record { are = rw (first, g.same, ends-fault (rw (ok-none u c).1 at v)); sound = tt })

      pub from_row : {z : ℕ} → result_ok u ≡ Some z → RowsOf img h n p (Some (record { inode = i; place = q; rest = record { first = z; count = m } }))
      from_row c =
          let g = rw (ok-some o d) at a in
          let x = ends-got (rw (ok-some u c) at v) in
          record { are = rw (first, g.same, x.1); sound = rw x.1 refl }

-- ---- a list, its count first

pub list-rows : {img : List ℕ} {h : Held} {p : ℕ} {rows : Rows} {r : Option Run} → RowsAt img last_count p rows → RowsOf img h rows.count rows.first r
    → ListOf img h p r
unfolding rows_read
list-rows {img} {h} {p} {rows} {r} a e = go (number_read last_count (drop p img)) refl
  where
    go : (o : Parsed ℕ) → number_read last_count (drop p img) ≡ o → ListOf img h p r
    go (got n s) d = let z = a.counted n s d in record { are = e.are ∙ rw (d, z.0, z.1); sound = e.sound }
    go (fault f) d = let z = a.uncounted f d in record { are = e.are ∙ rw (d, z.0); sound = e.sound }

pub ruleset runs = (list-rows)

-- ---- past an inode

-- what is left is left by what is read
pub left-as : {A : Type 0} (o : Parsed A) {s : List ℕ} → Leaves o s → (a : A) × (o ≡ got a s)
left-as (fault f) h = absurd h
left-as (got a r) h = (a, rw h refl)

module _ {img : List ℕ} {h : Held} {old : Option Run} {k : ℕ} (s : Sound img h old) where
  pub moved_none : old ≡ None → Moved img h old k None old
  unfolding pass
  moved_none e = rw e (record { rows = refl; sound = tt; head = refl; ends = tt })

  module _ {r : Run} (e : old ≡ Some r) where
    pub moved_here : r.inode ≡ k → {next : Option Run} → RowsOf img h r.rest.count r.rest.first next → Moved img h old k (Some r.place) next
    unfolding pass
    moved_here i d =
        let a = left-as _ (rw e at s) in
        rw e (record {
          rows = d.are ∙ rw (a.1, i, by_number.self k);
          sound = d.sound;
          head = rw (a.1, i, by_number.self k);
          ends = a;
        })

    -- a run that is not at k has other rows
    pub moved_other : (r.inode ≡ k → ⊥) → Moved img h old k None old
    unfolding pass
    moved_other n =
        let a = left-as _ (rw e at s) in
        let d = go (cmp_n k r.inode) (λ q. n (sym (same-N k r.inode q))) in
        rw e (record { rows = rw a.1 d.1; sound = rw e at s; head = rw a.1 d.0; ends = tt })
      where
        go : {x : Row} {t : List Row} (o : Ordering) → (o ≡ Equal → ⊥) → (choose o (Some x.1) None ≡ None) × (x ∷ t ≡ choose o t (x ∷ t))
        go Less n = (refl, refl)
        go Equal n = absurd (n refl)
        go Greater n = (refl, refl)

pub ruleset moves = (moved_none, moved_here, moved_other)

-- what ends somewhere is read
pub reads-there : (img : List ℕ) (h : Held) (p : ℕ) (o : Option ℕ) → EndsAt img h (Some p) o
    → (a : HeldUnder h) × (e : ℕ) × ((held h).read (drop p img) ≡ got a (drop e img))
reads-there img h p None z = absurd z
reads-there img h p (Some e) z = (z.0, e, z.1)

-- the place says whether the first row is of the inode
pub has-head : {img : List ℕ} {h : Held} {old new : Option Run} {k : ℕ} {place : Option ℕ} → Moved img h old k place new
    → is_some place ≡ is_there (head_if by_number k (run_rows img h old))
has-head {img} {h} {old} {place = place} m = go place m.head m.ends
  where
    go : (o : Option ℕ) → {x : Option Piece} → x ≡ piece_at img h o → EndsAt img h o (next_of old) → is_some o ≡ is_there x
    go None e z = rw e
    go (Some p) e z = let y = reads-there img h p (next_of old) z in rw (e, y.2)
