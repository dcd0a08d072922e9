-- The image with a layer normalised is that of the store with the layer normalised.
-- Assumes nothing.
use Rattle.std.specs.Prelude.{None, Option, Some, Result, Err}
use Rattle.std.proofs.Common.{MutBor}
use mathlib.Core.Path.{◌≡◌, refl, sym, ap, ◌∙◌}
use mathlib.Core.List.{List, [], ◌∷◌, ◌++◌, map, append_assoc, append-nil}
use Prim.Native.Nat.{ℕ, zero, suc, ◌+◌, ◌-◌, ◌≤◌, ◌<◌}
use native.Mathlib.Omega.{arith}
use native.Mathlib.Numerals.{add-one}
use lib.ListN.{length, length-map, take, drop, get_or}
use lib.Seq.{take-suc}
use borrow.Author.Tests.{lt-ltb, le-ltb}
use Rattle.std.specs.declared.cmp.Ordering.{Ordering}
use Rattle.std.specs.declared.cmp.Ordering.TheVariants.{Less, Equal, Greater}
use Rattle.wire.specs.Number.{number_bytes, number_to}
use Rattle.wire.specs.Order.{Order}
use Rattle.wire.specs.Orders.{by_number}
use Rattle.wire.specs.Rows.{choose, lookup, Under, Rising}
use Rattle.wire.specs.RowLaws.{ext}
use Rattle.wire.specs.Maps.{Map, meet, merge, empty, get, get-merge, get-empty}
use Rattle.wire.specs.Lists.{last_count}
use Rattle.wire.specs.Put.{Put}
use Rattle.wire.proofs.Puts.{put-append}
use Rattle.image.specs.Meaning.{Base, Layer, Batch, Store}
use Rattle.image.specs.FieldLayout.{inode}
use Rattle.image.specs.NodeLayout.{base}
use Rattle.image.specs.RecordLayout.{layer_record, records}
use Rattle.image.specs.StoreLayout.{batches}
use Rattle.image.specs.Rows.{RowsAt}
use Rattle.image.specs.declared.rows.Rows.{Rows}
use Rattle.image.proofs.Listed.{rows-read}
use Rattle.survey.specs.Gathering.{batch_head}
use Rattle.image.specs.RoundTrip.{write_image}
use Rattle.writers.specs.Tails.{tail}
use Rattle.rules.specs.Initial.{usual}
use Rattle.rules.specs.Calls.{Call}
use Rattle.rules.specs.Outcomes.{result}
use Rattle.rules.specs.Stacks.{stack, with_live, layers}
use Rattle.rules.specs.Changes.{map_if}
use Rattle.rules.specs.Normalise.{normal_layer, normal_batches, normal_live}
use Rattle.rules.specs.ChangeCalls.{by_rules}
use Rattle.change.specs.Cuts.{rows_bytes}
use Rattle.change.specs.Sections.{between, Spans, Stands, tail_of}
use Rattle.change.specs.Changed.{Changes, Writes}
use Rattle.survey.specs.declared.refusal.Refusal.{Refusal}
use Rattle.survey.specs.declared.refusal.Refusal.TheVariants as D
use Rattle.survey.specs.declared.store.Sections.{Sections}
use Rattle.change.proofs.Batches.{head_of, batch_bytes, queue_bytes, batches-bytes}
use Rattle.change.proofs.Cutting.{chain-rows}
use Rattle.change.proofs.Finishing.{changes-refused, changes-made}
use Rattle.change.proofs.Sections.{span-part, span-front, span-both, span-reads, value-is, stands-fits, store_bytes}
use Rattle.change.proofs.Queued.{stands-counted}
use Rattle.walk.specs.declared.walk.Walk.{Walk}
use Rattle.walk.specs.Ready.{Ready}
use Rattle.walk.specs.Opens.{layer_bytes, layer_at, LayersOf, OpensLayers}
use Rattle.walk.specs.declared.open.Layers.{Layers}
use Rattle.walk.proofs.Opening.{count-layers, layer_fits, live-fits, layers-start}
use Rattle.normalize.specs.Records.{normal_on}
use Rattle.normalize.specs.Rows.{normal_row, normal_rows, PutsRows}
use Rattle.normalize.specs.Images.{normal_bytes, LayerAt, PutsImage}
use Rattle.normalize.proofs.Recording.{between_is}

-- ---- a layer normalised, row by row

-- with a value of the key and of what stands under it; `map_values` (rules) has one of what stands there alone
module _ {K A : Type 0} (O : Order K) (f : K → A → A) where
  abbrev keyed : K × A → K × A
  keyed e = (e.0, f e.0 e.1)

  keyed-under : (k : K) (l : List (K × A)) → Under O k l → Under O k (map keyed l)
  keyed-under k [] u = tt
  keyed-under k (e ∷ l) u = (u.0, keyed-under k l u.1)

  keyed-rising : (l : List (K × A)) → Rising O l → Rising O (map keyed l)
  keyed-rising [] r = tt
  keyed-rising (e ∷ l) r = (keyed-under e.0 l r.0, keyed-rising l r.1)

  keyed-lookup : (k : K) (l : List (K × A)) → lookup O k (map keyed l) ≡ map_if (f k) (lookup O k l)
  unfolding lookup
  keyed-lookup k [] = refl
  keyed-lookup k (e ∷ l) = rw (keyed-lookup k l) (go (O.cmp k e.0) refl)
    where
      go : (d : Ordering) → O.cmp k e.0 ≡ d → choose d (Some (f e.0 e.1)) (map_if (f k) (lookup O k l)) ≡ map_if (f k) (choose d (Some e.1) (lookup O k l))
      go Less q = refl
      go Greater q = refl
      go Equal q = rw (O.same k e.0 q)

  keyed-rows : (m : Map O A) → (merge O (λ k a o. Some (f k a)) m (empty O)).rows ≡ map keyed m.rows
  unfolding get
  keyed-rows m =
      let n = merge O (λ k a o. Some (f k a)) m (empty O) in
      ext O n.rows (map keyed m.rows) n.rising (keyed-rising m.rows m.rising) (λ k.
      get-merge O (λ k a o. Some (f k a)) k m (empty O) ∙ rw get-empty (go k (get O k m)) ∙ sym (keyed-lookup k m.rows))
    where
      go : (k : K) (o : Option A) → meet (λ a o. Some (f k a)) o None ≡ map_if (f k) o
      go k None = refl
      go k (Some a) = refl

normal-rows : (ls : List Layer) (b : Base) (l : Layer) → (normal_layer ls b l).rows ≡ normal_rows b ls l.rows
unfolding normal_layer
normal-rows ls b l = keyed-rows by_number (λ i r. normal_on (stack i ls) (get by_number i b) r) l

normal-write : (ls : List Layer) (b : Base) (l : Layer)
    → records.write (normal_layer ls b l) ≡ number_bytes (length l.rows) ++ rows_bytes inode layer_record (normal_rows b ls l.rows)
normal-write ls b l = rw (normal-rows ls b l, length-map l.rows (normal_row b ls), chain-rows by_number inode layer_record None (normal_rows b ls l.rows))

-- ---- the image written

pub image-put : {k : Walk} {w : Layers} {old b₁ b₂ b₃ new : List ℕ} {q₁ q₂ q₃ r : ℕ} {rows : Rows} → RowsAt k.img.now last_count w.top rows
    → Put old 0 (between k.img.now 0 w.top) q₁ b₁ → Put b₁ q₁ (number_bytes rows.count) q₂ b₂ → PutsRows k b₂ q₂ q₃ b₃
    → Put b₃ q₃ (between k.img.now w.end (length k.img.now)) r new → PutsImage k w old r new
image-put {w} {rows = rows} a p q t v = record {
  puts = λ b ls l h.
      let nb = number_bytes (length l.rows) in
      let o = rows-read a in
      let z = span-reads (number_to last_count refl) {a = length l.rows} (span-front nb _ h.stands) (omega (arith, h.fits.count)) o.1 in
      let y : rows.count ≡ length l.rows = ap (λ (x : ℕ × ℕ). x.0) (value-is (0, 0) z o.2) in
      rw (normal-write ls b l, append_assoc) (put-append p (put-append (rw y at q) (put-append (t.puts b ls l h.over) v)));
}

-- ---- where the layer stands in the image

abbrev R : Layer → List ℕ
R l = records.write l

record Parts (under : List Layer) (b : Base) (bs : List Batch) (live : Layer) (p : ℕ) : Type 0 where
  pre : List ℕ
  old : queue_bytes bs ++ R live ≡ pre ++ (R (get_or (with_live bs live) p (empty by_number)) ++ layer_bytes bs live (suc p))
  new : queue_bytes (normal_batches under b bs p) ++ R (normal_live under b bs p live)
      ≡ pre ++ (R (normal_layer (under ++ take p (with_live bs live)) b (get_or (with_live bs live) p (empty by_number))) ++ layer_bytes bs live (suc p))

four : (a b c d : List ℕ) → ((a ++ b) ++ c) ++ d ≡ a ++ (b ++ (c ++ d))
four a b c d = simp append_assoc

parts : (under : List Layer) (b : Base) (bs : List Batch) (live : Layer) (p : ℕ) → p ≤ length bs → Parts under b bs live p
unfolding queue_bytes layer_bytes normal_batches normal_live
parts under b [] live zero h = record {
  pre = [];
  old = sym (append-nil (R live));
  new = sym (append-nil (R (normal_layer under b live))) ∙ ap (λ (u : List Layer). R (normal_layer u b live) ++ []) (sym (append-nil under));
}
parts under b [] live (suc p) h = absurd (omega arith)
parts under b (x ∷ bs) live zero h =
    let head = batch_head.write (head_of x) in
    record {
      pre = head;
      old = four head (R x.records) (queue_bytes bs) (R live) ∙ ap (λ (t : List ℕ). head ++ (R x.records ++ t)) (sym (layers-start bs live));
      new = four head (R (normal_layer under b x.records)) (queue_bytes bs) (R live)
          ∙ ap (λ (t : List ℕ). head ++ (R (normal_layer under b x.records) ++ t)) (sym (layers-start bs live))
          ∙ ap (λ (u : List Layer). head ++ (R (normal_layer u b x.records) ++ layer_bytes bs live 0)) (sym (append-nil under));
    }
parts under b (x ∷ bs) live (suc p) h =
    let i = parts (under ++ (x.records ∷ [])) b bs live p (omega arith) in
    let l = get_or (with_live bs live) p (empty by_number) in
    record {
      pre = batch_bytes x ++ i.pre;
      old = append_assoc (batch_bytes x) (queue_bytes bs) (R live) ∙ ap (λ (t : List ℕ). batch_bytes x ++ t) i.old
          ∙ sym (append_assoc (batch_bytes x) i.pre (R l ++ layer_bytes bs live (suc p)));
      new =
          append_assoc (batch_bytes x) (queue_bytes (normal_batches (under ++ (x.records ∷ [])) b bs p))
          (R (normal_live (under ++ (x.records ∷ [])) b bs p live))
          ∙ ap (λ (t : List ℕ). batch_bytes x ++ t) i.new
          ∙ ap (λ (u : List Layer). batch_bytes x ++ (i.pre ++ (R (normal_layer u b l) ++ layer_bytes bs live (suc p))))
          (append_assoc under (x.records ∷ []) (take p (with_live bs live)))
          ∙ sym (append_assoc (batch_bytes x) i.pre (R (normal_layer (under ++ (x.records ∷ take p (with_live bs live))) b l) ++ layer_bytes bs live (suc p)));
    }

same_count : (under : List Layer) (b : Base) (bs : List Batch) (p : ℕ) → length (normal_batches under b bs p) ≡ length bs
unfolding normal_batches
same_count under b [] p = refl
same_count under b (x ∷ bs) zero = refl
same_count under b (x ∷ bs) (suc p) = ap suc (same_count (under ++ (x.records ∷ [])) b bs p)

module _ {img : List ℕ} {s : Store} {p : Sections} (w : Stands img p s) {n : ℕ} (h : n ≤ length s.batches) {top end : ℕ}
    (t : Spans img top (R (layer_at s n)) end)
    (u : Spans img end (layer_bytes s.batches s.live (suc n)) p.tail) where
  q : Parts [] s.base s.batches s.live n
  q = parts [] s.base s.batches s.live n h

  abbrev nb : List ℕ
  nb = number_bytes (length s.batches)

  -- all that stands before the layer
  before : between img 0 top ≡ base.write s.base ++ (nb ++ q.pre)
  before =
      let x = span-both w.base (span-both w.batches w.live) in
      let y : (base.write s.base ++ (batches.write s.batches ++ R s.live))
      ≡ (base.write s.base ++ (nb ++ q.pre)) ++ (R (layer_at s n) ++ layer_bytes s.batches s.live (suc n)) =
      rw (batches-bytes s.batches, append_assoc nb (queue_bytes s.batches) (R s.live), q.old) (simp append_assoc) in
      let X = base.write s.base ++ (nb ++ q.pre) in
      let A = R (layer_at s n) in
      let B = layer_bytes s.batches s.live (suc n) in
      let D = drop p.tail img in
      between_is img 0 top X
      (x.is ∙ ap (λ (r : List ℕ). r ++ D) y ∙ append_assoc X (A ++ B) D
      ∙ ap (λ (r : List ℕ). X ++ r) (append_assoc A B D ∙ sym (t.is ∙ ap (λ (r : List ℕ). A ++ r) u.is)))
      (omega (arith, t.ends, t.within))

  -- all that stands after it
  after : between img end (length img) ≡ layer_bytes s.batches s.live (suc n) ++ tail.write (tail_of s)
  after = span-part (span-both u w.tail)

  pub normal-image : between img 0 top ++ (R (normal_layer (take n (layers s)) s.base (layer_at s n)) ++ between img end (length img))
      ≡ write_image (result usual (Call.normalise n) s)
  unfolding result
  normal-image =
      let s2 = result usual (Call.normalise n) s in
      rw (before, after, store_bytes s2, batches-bytes (normal_batches [] s.base s.batches n), same_count [] s.base s.batches n)
      (ends (base.write s.base) nb q.pre (R (normal_layer (take n (layers s)) s.base (layer_at s n))) (layer_bytes s.batches s.live (suc n))
      (tail.write (tail_of s))
      (queue_bytes (normal_batches [] s.base s.batches n)) (R (normal_live [] s.base s.batches n s.live)) q.new)
    where
      ends : (a c x l m z i j : List ℕ) → i ++ j ≡ x ++ (l ++ m) → (a ++ (c ++ x)) ++ (l ++ (m ++ z)) ≡ a ++ ((c ++ i) ++ (j ++ z))
      ends a c x l m z i j e =
          let y : (a ++ (c ++ x)) ++ (l ++ (m ++ z)) ≡ a ++ (c ++ ((x ++ (l ++ m)) ++ z)) = simp append_assoc in
          y ∙ rw (← e) (simp append_assoc)

-- ---- the call

module _ {img : List ℕ} {p : Sections} {s : Store} (w : Stands img p s) {r : Rows} (a : RowsAt img 16 p.batches r) where
  counted : r.count ≡ length s.batches
  counted = let o = rows-read a in ap (λ (x : ℕ × ℕ). x.0) (value-is (0, 0) (stands-counted w o.1) o.2)

  -- "11 if the position is above the number of batches"
  pub position-refused : {n : ℕ} → r.count < n → {old : List ℕ} → Changes (by_rules usual (Call.normalise n) img (length old)) old (Err D.NoLayer) old
  position-refused {n} h = changes-refused (Call.normalise n) w (rw (lt-ltb (length s.batches) n (omega (arith, counted))))

  module _ {n : ℕ} (h : n ≤ r.count) where
    long : n + 1 ≤ length (layers s)
    long = omega (arith, counted, count-layers s.batches s.live)

    module _ {l : Layers} (g : OpensLayers img p (n + 1) l) where
      opened : LayersOf img s p.tail (n + 1) l
      opened = g.opens s w long

      -- its runs are a walk's
      pub position-ready : Ready img l.runs
      position-ready = opened.ready

      layer-stands : Spans img l.top (R (layer_at s n)) l.end
      layer-stands = let e : n + 1 - 1 ≡ n = omega arith in rw e at (opened.at.top (omega arith))

      module _ (k : Walk) (image : k.img.now ≡ img) (same : k.runs ≡ l.runs) where
        there : LayerAt k l s.base (take n (layers s)) (layer_at s n)
        there =
            let f = stands-fits w in
            record {
              over = record { are = rw (image, same) (rw (add-one, take-suc (layers s) n (empty by_number) (omega (arith, long))) at opened.are) };
              stands = rw image layer-stands;
              fits = layer_fits s.batches s.live n f.batches.each (live-fits s f) (omega (arith, long));
            }

        pub position-changed : {Puts : MutBor (List ℕ) → ℕ → MutBor (List ℕ) → Type 0} {old new : List ℕ} {x : Result ℕ Refusal} → Writes Puts old x new
            → ((t : MutBor (List ℕ)) (q : ℕ) (u : MutBor (List ℕ)) → Puts t q u → PutsImage k l t.now q u.now)
            → Changes (by_rules usual (Call.normalise n) img (length old)) old x new
        position-changed v puts =
            let under = take n (layers s) in
            changes-made (Call.normalise n) w (rw (le-ltb (length s.batches) n (omega (arith, counted))))
            (rw image (normal-image w (omega (arith, counted)) layer-stands (rw add-one at opened.at.rest)))
            (v (normal_bytes k l s.base under (layer_at s n)) (λ t q u h. (puts t q u h).puts s.base under (layer_at s n) there))
