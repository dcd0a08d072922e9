-- One batch after the other: the places of one inode's records.
-- Assumes nothing.
use mathlib.Core.Path.{◌≡◌, refl, sym, ap, ◌∙◌, subst}
use mathlib.Core.List.{List, [], ◌++◌, append_assoc, append-nil}
use Rattle.std.specs.Prelude.{Result, Ok, Err, Some, None, Option}
use Rattle.std.specs.Prelude.{Option}
use Prim.Native.Nat.{ℕ, zero, suc, ◌+◌, ◌-◌, ◌≤◌, ◌<◌}
use native.Mathlib.Omega.{arith}
use lib.ListN.{length, drop}
use Rattle.wire.specs.declared.fault.Fault.{Fault}
use Rattle.wire.specs.Parse.{Parsed, got, bind, bind-bind}
use Rattle.wire.specs.Combinators.{only}
use Rattle.wire.specs.Orders.{by_number}
use Rattle.wire.specs.Lists.{after}
use Rattle.wire.specs.Reading.{Reads}
use Rattle.wire.proofs.Readers.{handed, number-most, read-in}
use Rattle.image.specs.FieldLayout.{inode}
use Rattle.image.specs.RecordLayout.{records}
use Rattle.image.specs.StoreLayout.{BatchRest, batch_rest}
use Rattle.image.specs.Places.{Ends, rows_from}
use Rattle.image.specs.Rows.{ReadsRows, counted}
use Rattle.image.specs.declared.rows.Rows.{Rows}
use Rattle.passes.specs.Held.{Finds}
use Rattle.survey.specs.Gathering.{list_if, deltas_of, head_rest, batch_head, record_place, batch_places}
use Rattle.survey.specs.Gathering.{Bare, Pushed, Gathers, GathersQueue}
use Rattle.passes.specs.declared.inode.Held.TheVariants as H
use Rattle.survey.specs.declared.batch.InodeLayerStack.{InodeLayerStack}
use Rattle.survey.specs.declared.batch.Batches.{Batches}
use Rattle.image.proofs.Passing.{ends-read, ends-stop, ends-chosen, ends-unchosen, ends-got, ends-then, Passed, passed_start, passed_on, passed-unkeyed, passed-stop, passed-last, passed-all}
use Rattle.passes.proofs.Inodes.{key-read}

-- one batch more
places-step : {img : List ℕ} {here m q : ℕ} (sought n : ℕ) (o : Option ℕ) → 0 < n → Ends img batch_head.read here (Ok m)
    → Ends img records.read m (Ok q) → o ≡ record_place (length img) sought (drop m img)
    → batch_places (length img) sought n (drop here img) ≡ list_if o ++ batch_places (length img) sought (n - 1) (drop q img)
unfolding batch_places
places-step sought zero o h a b e = absurd (omega arith)
places-step {img} {m = m} {q} sought (suc n) o h a b e =
    let z : suc n - 1 ≡ n = omega arith in
    let g = ends-got a in
    let r = ends-got b in
    rw (g.1, r.1, z, e)

-- what follows the id is the rest of the head, and the records
rest_read : (s : List ℕ) → bind (head_rest.read s) (λ h r. bind (records.read r) (λ l t. got (h.0, (h.1.0, (h.1.1.0, (h.1.1.1, l)))) t)) ≡ batch_rest.read s
rest_read s = simp bind-bind

abbrev headed : List ℕ → Parsed BatchRest
headed s = bind (head_rest.read s) (λ h r. bind (records.read r) (λ l t. got (h.0, (h.1.0, (h.1.1.0, (h.1.1.1, l)))) t))

module _ {img : List ℕ} {m : ℕ} {u : Result ℕ Fault} (b : Ends img head_rest.read m u) where
  rest : {r : Result ℕ Fault} → Ends img headed m r → Ends img batch_rest.read m r
  rest {r} h = subst (λ (p : List ℕ → Parsed BatchRest). Ends img p m r) (λ i s. rest_read s i) h

  rest-stop : {f : Fault} → u ≡ Err f → Ends img batch_rest.read m (Err f)
  rest-stop c = rest (ends-stop _ b c refl)

  rest-ends : {k : ℕ} {r : Result ℕ Fault} → u ≡ Ok k → Ends img records.read k r → Ends img batch_rest.read m r
  rest-ends c g = rest (ends-then records.read (λ h l. (h.0, (h.1.0, (h.1.1.0, (h.1.1.1, l))))) b c g)

-- The loop over the batches has come to `here`, where `left` are left after the id `last`; `now` is gathered of them.
pub record Going (img : List ℕ) (sought first n : ℕ) (base : Option ℕ) (last : Option ℕ) (here left : ℕ) (now : InodeLayerStack) : Type 0 where
  pub rows : Passed by_number inode batch_rest img first n last here left
  pub places : deltas_of now ++ batch_places (length img) sought left (drop here img) ≡ batch_places (length img) sought n (drop first img)
  pub few : now.count + left ≤ n
  pub wide : length now.deltas ≡ 17
  pub base_kept : now.base ≡ base

pub going_start : {img : List ℕ} {sought first n left : ℕ} {base : Option ℕ} {now : InodeLayerStack} → first ≤ length img → Bare base now → left ≡ n
    → Going img sought first n base None first left now
going_start h b e = record {
  rows = passed_start h e;
  places = rw (b.few, e);
  few = omega (arith, b.few);
  wide = b.wide;
  base_kept = b.base_kept;
}

module _ {img : List ℕ} {sought first n here left : ℕ} {base last : Option ℕ} {now : InodeLayerStack} (w : Going img sought first n base last here left now)
  where
    pub going-all : left ≤ 0 → Gathers img sought first n base (Ok (record { stack = now; last = last }, here))
    unfolding batch_places
    going-all h = record {
      ends = passed-all w.rows h;
      gathered = record {
        last = passed-last w.rows h;
        places = sym (append-nil (deltas_of now)) ∙ ap (λ (l : List ℕ). deltas_of now ++ l) (none-places left h) ∙ w.places;
        base_kept = w.base_kept;
        few = omega (arith, w.few);
        wide = w.wide;
      };
    }
      where
        none-places : (k : ℕ) → k ≤ 0 → [] ≡ batch_places (length img) sought k (drop here img)
        none-places zero h = refl
        none-places (suc k) h = absurd (omega arith)

    module _ (h : 0 < left) {o : Result (ℕ × ℕ) Fault} (a : Reads img (only (after by_number last) inode).read here o) where
      -- the id stops
      pub going-unkeyed : {f : Fault} {r : Result (Batches × ℕ) Fault} → o ≡ Err f → r ≡ Err f → Gathers img sought first n base r
      going-unkeyed d e = rw e (record { ends = passed-unkeyed w.rows h a d refl; gathered = tt })

      module _ {j m : ℕ} (d : o ≡ Ok (j, m)) {u : Result ℕ Fault} (b : Ends img head_rest.read m u) where
        -- the rest of the head stops
        pub going-headless : {f : Fault} {r : Result (Batches × ℕ) Fault} → u ≡ Err f → r ≡ Err f → Gathers img sought first n base r
        going-headless c e = rw e (record { ends = passed-stop w.rows h a d (rest-stop b c) refl refl; gathered = tt })

        module _ {k : ℕ} (c : u ≡ Ok k) {v : Result (Option ℕ × ℕ) Fault} (f : Finds img H.Record sought k v) where
          -- the records stop
          pub going-stop : {y : Fault} {r : Result (Batches × ℕ) Fault} → v ≡ Err y → r ≡ Err y → Gathers img sought first n base r
          going-stop z e = let g = rw z at f in rw e (record { ends = passed-stop w.rows h a d (rest-ends b c g.ends) refl refl; gathered = tt })

          pub going_on : {place : Option ℕ} {q left2 : ℕ} {new : InodeLayerStack} → v ≡ Ok (place, q) → Pushed now place new → left2 ≡ left - 1
              → Going img sought first n base (Some j) q left2 new
          going_on {place} z p e =
              let g = rw z at f in
              let i = rw d at a in
              let key : Ends img inode.read here (Ok m) = ends-read {o = Ok (j, m)} (record { same = key-read last (drop here img) i.same; within = i.within })
              refl in
              let head : Ends img batch_head.read here (Ok k) = ends-then head_rest.read (λ a b. (a, b)) key refl (rw c at b) in
              rw e (record {
                rows = passed_on w.rows h a d (rest-ends b c g.ends) refl refl;
                places = rw (p.places, append_assoc, ← (places-step sought left place h head g.ends g.found)) w.places;
                few = omega (arith, p.few, w.few);
                wide = p.wide;
                base_kept = p.base ∙ w.base_kept;
              })

-- ---- the whole list, its count first

module _ {img : List ℕ} {sought at : ℕ} {base : Option ℕ} {o : Result Rows Fault} (h : ReadsRows img 16 at o) where
  pub queue-stop : {f : Fault} {r : Result (Batches × ℕ) Fault} → o ≡ Err f → r ≡ Err f → GathersQueue img sought at base r
  queue-stop d e = rw e (record { ends = ends-unchosen (λ n s. rows_from by_number inode batch_rest n None s) h (ap counted d) refl; gathered = tt })

  pub queue-all : {list : Rows} {r : Result (Batches × ℕ) Fault} → o ≡ Ok list → Gathers img sought list.first list.count base r → GathersQueue img sought at base r
  queue-all {list} {r} d g = go r g
    where
      go : (r : Result (Batches × ℕ) Fault) → Gathers img sought list.first list.count base r → GathersQueue img sought at base r
      go (Err f) g = record { ends = ends-chosen (λ n s. rows_from by_number inode batch_rest n None s) h (ap counted d) g.ends; gathered = tt }
      go (Ok x) g =
          let c = rw d at h in
          let b = g.gathered in
          let l : list.count ≤ 16 = number-most h (ap counted d) in
          record {
            ends = ends-chosen (λ n s. rows_from by_number inode batch_rest n None s) h (ap counted d) g.ends;
            gathered = record {
              last = rw (c.same) b.last;
              places = rw (c.same) b.places;
              base_kept = b.base_kept;
              few = omega (arith, b.few);
              wide = b.wide;
            };
          }

pub ruleset gathers = (going_start, going-all, going-unkeyed, going-headless, going-stop, going_on, queue-stop, queue-all, number-most, read-in, handed)
