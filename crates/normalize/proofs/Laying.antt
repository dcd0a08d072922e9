-- The records of the topmost layer of a walk, one after the other.
-- Assumes nothing.
use Rattle.std.specs.Prelude.{None, Option, Some}
use mathlib.Core.Path.{◌≡◌, refl, sym, ap, ◌∙◌}
use mathlib.Core.Bool.{true, false}
use mathlib.Core.List.{List, [], ◌∷◌, ◌++◌, map}
use Prim.Native.Nat.{ℕ, zero, suc, ◌≤◌, ◌<◌}
use native.Mathlib.Omega.{arith}
use lib.ListN.{length, take}
use Rattle.std.specs.declared.cmp.Ordering.{Ordering}
use Rattle.std.specs.declared.cmp.Ordering.TheVariants.{Less, Equal, Greater}
use Rattle.wire.specs.Number.{edge}
use Rattle.wire.specs.Orders.{by_number, cmp_n, same-N}
use Rattle.wire.specs.Maps.{get}
use Rattle.wire.specs.Lists.{Every}
use Rattle.wire.specs.Put.{Put}
use Rattle.wire.proofs.Puts.{put-append, put-length}
use Rattle.image.specs.Meaning.{Record, Base, Layer}
use Rattle.image.specs.FieldLayout.{inode}
use Rattle.image.specs.RecordLayout.{layer_record}
use Rattle.stack.specs.declared.stack.Stack.{Stack}
use Rattle.rules.specs.Reads.{is_there}
use Rattle.rules.specs.Stacks.{stack_on, stack}
use Rattle.rules.specs.PlacedStacks.{records_on}
use Rattle.rules.proofs.Layers.{stack-append}
use Rattle.rules.proofs.MapValues.{map_row}
use Rattle.merge.specs.Pile.{pick_key, lower, least_key, head_if, pass, pass_all}
use Rattle.change.specs.Cuts.{rows_bytes}
use Rattle.walk.specs.Runs.{of_record, Row}
use Rattle.walk.specs.Walks.{Pieces, top_of, sources_of, stacks_left, pieces_in, Steps}
use Rattle.walk.specs.Opens.{node_rows, Over}
use Rattle.walk.specs.declared.walk.Step.{Step}
use Rattle.walk.specs.declared.walk.Walk.{Walk}
use Rattle.walk.proofs.Opening.{layers-snoc}
use Rattle.walk.proofs.Stacked.{every-found, Is, over-each}
use Rattle.normalize.specs.Records.{normal_pieces}
use Rattle.normalize.specs.Rows.{normal_rows, PutsStep, PutsRows}

-- ---- one step

module _ {t : Step} {old : List ℕ} {at : ℕ} where
  pub step-topped : {mid new : List ℕ} {q r : ℕ} → t.top ≡ true → Put old at (inode.write t.inode) q mid
      → Put mid q (layer_record.write (normal_pieces (pieces_in t.stack))) r new → PutsStep t old at r new
  step-topped e p q = record {
    topped = λ x h. put-append p q;
    passed = λ x. cc;
    low = λ h. omega (arith, q.to);
    same = put-length q ∙ put-length p;
  }

-- ---- the rows of the topmost layer

abbrev records : List (ℕ × Record) → List Row
records l = map (map_row by_number of_record) l

top-pass : (k : ℕ) (ss : List (List Row)) → top_of (pass_all by_number k ss) ≡ pass by_number k (top_of ss)
unfolding pass_all pass
top-pass k [] = refl
top-pass k (s ∷ ss) = refl

-- where no inode is left, none is on top
top-end : (ss : List (List Row)) → least_key by_number ss ≡ None → top_of ss ≡ []
unfolding least_key
top-end [] h = refl
top-end ([] ∷ ss) h = refl
top-end ((u ∷ s) ∷ ss) h = go (least_key by_number ss) h
  where
    pick : (b : ℕ) (d : Ordering) → pick_key by_number d u.0 b ≡ None → u ∷ s ≡ []
    pick b Less h = cc
    pick b Equal h = cc
    pick b Greater h = cc

    go : (o : Option ℕ) → lower by_number (Some u.0) o ≡ None → u ∷ s ≡ []
    go None h = cc
    go (Some b) h = pick b (cmp_n u.0 b) h

none-records : (l : List (ℕ × Record)) → records l ≡ [] → l ≡ []
none-records [] h = refl
none-records (e ∷ l) h = cc

-- a stack with a record has a place for it
some-count : (s : Stack) {r : Record} {x : Pieces} → pieces_in s ≡ (r ∷ x.0, x.1) → 0 < s.places.count
unfolding records_on
some-count s {r} {x} e = go s.places.count (ap (λ (y : Pieces). y.0) e)
  where
    go : (n : ℕ) → map (λ r. r.held) (records_on s.img.now (take n s.places.deltas) []) ≡ r ∷ x.0 → 0 < n
    go zero e = cc
    go (suc n) e = omega arith

module _ (b : Base) (ls : List Layer) (l : Layer) where
  abbrev bytes_of : List (ℕ × Record) → List ℕ
  bytes_of rows = rows_bytes inode layer_record (normal_rows b ls rows)

  abbrev Found : ℕ × Record → Type 0
  Found e = get by_number e.0 l ≡ Some e.1

  -- the rows that are left of the layer
  pub record RowsLeft (old : List ℕ) (at : ℕ) (rest : Walk) (buf : List ℕ) (next : ℕ) : Type 0 where
    pub left : List (ℕ × Record)
    pub tops : top_of (sources_of rest) ≡ records left
    pub found : Every Found left
    pub each : Every (Is b (ls ++ (l ∷ []))) (stacks_left rest)
    pub put : (r : ℕ) (new : List ℕ) → Put buf next (bytes_of left) r new → Put old at (bytes_of l.rows) r new

  rows_start : {w : Walk} {old : List ℕ} {at : ℕ} → Over b (ls ++ (l ∷ [])) w → RowsLeft old at w old at
  unfolding get
  rows_start {w} o = record {
    left = l.rows;
    tops = ap top_of (o.are ∙ layers-snoc ls l (node_rows b ∷ []));
    found = every-found by_number Found l.rows l.rising (λ k a h. h);
    each = over-each o;
    put = λ r new p. p;
  }

  -- the topmost record of an inode, over the others
  stack_top : (k : ℕ) (r : Record) (p : Pieces) → get by_number k l ≡ Some r → Is b (ls ++ (l ∷ [])) (k, p) → p ≡ (r ∷ stack k ls, get by_number k b)
  unfolding stack_on
  stack_top k r p g i = i.pieces ∙ rw (stack-append, g)

  module _ {old : List ℕ} {at : ℕ} {rest : Walk} {buf : List ℕ} {next : ℕ} {step : Step} {after : Walk} (s : Steps rest (Some step) after)
      {out : List ℕ} {q : ℕ} (p : PutsStep step buf next q out) where
    rows_next : RowsLeft old at rest buf next → RowsLeft old at after out q
    unfolding pass rows_bytes
    rows_next w = go w.left w.tops w.found w.put
      where
        k : ℕ
        k = step.inode

        all : Every (Is b (ls ++ (l ∷ []))) ((k, pieces_in step.stack) ∷ stacks_left after)
        all = rw s.stacks at w.each

        rest-tops : top_of (sources_of after) ≡ pass by_number k (top_of (sources_of rest))
        rest-tops = ap top_of s.taken.rest ∙ top-pass k (sources_of rest)

        stays : (x : List (ℕ × Record)) → top_of (sources_of rest) ≡ records x → Every Found x
            → ((r : ℕ) (new : List ℕ) → Put buf next (bytes_of x) r new → Put old at (bytes_of l.rows) r new)
            → is_there (head_if by_number k (records x)) ≡ false → pass by_number k (records x) ≡ records x → RowsLeft old at after out q
        stays x t f u h v =
            let y = p.passed (s.taken.stack.top ∙ rw t h) in
            record { left = x; tops = rest-tops ∙ rw t v; found = f; each = all.1; put = λ r new z. u r new (rw (← y.0, ← y.1) z) }

        go : (x : List (ℕ × Record)) → top_of (sources_of rest) ≡ records x → Every Found x
            → ((r : ℕ) (new : List ℕ) → Put buf next (bytes_of x) r new → Put old at (bytes_of l.rows) r new)
            → RowsLeft old at after out q
        go [] t f u = stays [] t f u refl refl
        go (e ∷ x) t f u = pick (cmp_n k e.0) refl
          where
            pick : (d : Ordering) → cmp_n k e.0 ≡ d → RowsLeft old at after out q
            pick Less c = stays (e ∷ x) t f u (rw c) (rw c)
            pick Greater c = stays (e ∷ x) t f u (rw c) (rw c)
            pick Equal c =
                let z : k ≡ e.0 = same-N k e.0 c in
                let i = stack_top k e.1 (pieces_in step.stack) (rw z f.0) all.0 in
                let top : step.top ≡ true = s.taken.stack.top ∙ rw (t, c) in
                let y = p.topped top (some-count step.stack {r = e.1} {x = (stack k ls, get by_number k b)} i) in
                record {
                  left = x;
                  tops = rest-tops ∙ rw (t, c);
                  found = f.1;
                  each = all.1;
                  put = λ r new v. u r new (put-append (rw (i, z) at y) v);
                }

-- ---- the loop

pub record Laying (w : Walk) (old : List ℕ) (at : ℕ) (rest : Walk) (buf : List ℕ) (next : ℕ) : Type 0 where
  pub low : next ≤ edge
  pub same : length buf ≡ length old
  pub short : length old < edge
  pub puts : (b : Base) (ls : List Layer) (l : Layer) → Over b (ls ++ (l ∷ [])) w → RowsLeft b ls l old at rest buf next

pub laying-start : (w : Walk) {old : List ℕ} {at : ℕ} → at ≤ edge → length old < edge → Laying w old at w old at
laying-start w a s = record { low = a; same = refl; short = s; puts = λ b ls l o. rows_start b ls l o }

module _ {w : Walk} {old : List ℕ} {at : ℕ} {rest : Walk} {buf : List ℕ} {next : ℕ} (g : Laying w old at rest buf next) {after : Walk} where
  pub laying-more : {step : Step} → Steps rest (Some step) after → {out : List ℕ} {q : ℕ} → PutsStep step buf next q out → Laying w old at after out q
  laying-more s p = record {
    low = p.low g.low;
    same = p.same ∙ g.same;
    short = g.short;
    puts = λ b ls l o. rows_next b ls l s p (g.puts b ls l o);
  }

  pub laying-end : Steps rest None after → PutsRows w old at next buf
  unfolding rows_bytes
  laying-end s = record {
    puts = λ b ls l o.
        let x = g.puts b ls l o in
        let z : x.left ≡ [] = none-records x.left (sym x.tops ∙ top-end (sources_of rest) (s.ended refl)) in
        x.put next buf (rw z (record { to = omega (arith, g.low); is = refl; short = omega (arith, g.short, g.same) }));
  }
