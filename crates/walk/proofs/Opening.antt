-- A walk over the first layers of an image, one layer after the other.
-- Assumes nothing.
use Rattle.std.specs.Prelude.{None, Option, Some, Result, Ok, Err}
use mathlib.Core.Path.{◌≡◌, refl, sym, ap, ◌∙◌}
use mathlib.Core.Logic.{⊎_elim}
use mathlib.Core.List.{List, [], ◌∷◌, ◌++◌, map, append_assoc, append-nil}
use Prim.Native.Nat.{ℕ, zero, suc, ◌+◌, ◌-◌, ◌*◌, ◌≤◌, ◌<◌}
use native.Mathlib.Omega.{arith}
use native.Mathlib.Numerals.{add-one}
use lib.ListN.{length, take, drop, get_or, set, length-map}
use Rattle.std.specs.List.{All}
use Rattle.std.proofs.lemmas.List.{length-append, length-drop, length-set, take_all, take_at, take_more, take_more_set}
use Rattle.std.proofs.lemmas.List.Elements.{All-nil, All-push}
use Rattle.std.specs.Result.{result_unwrap_or}
use Rattle.wire.specs.declared.fault.Fault.{Fault}
use Rattle.wire.specs.Combinators.{◌then◌}
use Rattle.wire.specs.Number.{edge, number_bytes, number-back, lt-or-ge}
use Rattle.wire.specs.Orders.{by_number}
use Rattle.wire.specs.Maps.{Map, empty}
use Rattle.wire.specs.Lists.{Every, FitsRow, chain_write, row, onto, last_count}
use Rattle.wire.specs.Reading.{Reads, meant}
use Rattle.wire.proofs.Readers.{handed}
use Rattle.image.specs.Meaning.{Base, Layer, Batch, Store}
use Rattle.image.specs.Fits.{FitsBatch, FitsStore}
use Rattle.image.specs.FieldLayout.{inode, listed}
use Rattle.image.specs.NodeLayout.{node}
use Rattle.image.specs.StoreLayout.{batches}
use Rattle.image.specs.Rows.{RowsAt}
use Rattle.image.specs.declared.rows.Rows.{Rows}
use Rattle.image.specs.RecordLayout.{layer_record, records}
use Rattle.survey.specs.Gathering.{batch_head}
use Rattle.passes.specs.Held.{HeldUnder, held}
use Rattle.image.specs.Places.{Ends}
use Rattle.passes.specs.declared.inode.Held.{Held}
use Rattle.passes.specs.declared.inode.Held.TheVariants as H
use Rattle.rules.specs.Stacks.{with_live, layers}
use Rattle.rules.proofs.MapValues.{map_row, map-rising}
use Rattle.merge.specs.Pile.{Ascend, total}
use Rattle.merge.proofs.Few.{pile-few}
use Rattle.walk.specs.Walks.{laying, stacks_of}
use Rattle.change.specs.Batches.{HeadParts}
use Rattle.change.specs.Sections.{Spans, Stands}
use Rattle.survey.specs.declared.store.Sections.{Sections}
use Rattle.change.proofs.Batches.{head_of, queue_bytes}
use Rattle.change.proofs.Sections.{span-front, span-back, span-both, ends-past, value-is, stands-fits}
use Rattle.change.proofs.Queued.{rows-count, rows-queue}
use Rattle.writers.specs.Batches.{head_meant}
use Rattle.writers.specs.declared.batch.BatchHead.{BatchHead}
use Rattle.walk.specs.Runs.{of_node, of_record, piece, Row, rows_read, list_rows, run_rows, Sound, ListOf}
use Rattle.walk.specs.Ready.{layers_over, sources_in, Ready}
use Rattle.walk.specs.Opens.{node_rows, record_rows, layers_on, lead, layer_bytes, layer_at, TopAt, OpensLayers}
use Rattle.walk.specs.declared.run.Run.{Run}
use Rattle.walk.proofs.Stepping.{sources_to, over-set}

-- ---- the rows of a list that was written

module _ (h : Held) where
  rows_are : (prev : Option ℕ) (l : List (ℕ × HeldUnder h)) (t : List ℕ) → Every (FitsRow by_number inode (held h)) l
      → rows_read h (length l) (chain_write (row by_number inode (held h)) (onto by_number inode (held h)) prev l ++ t) ≡ map (map_row by_number (piece h)) l
  unfolding rows_read
  rows_are prev [] t f = refl
  rows_are prev (e ∷ l) t f =
      let r = chain_write (row by_number inode (held h)) (onto by_number inode (held h)) (Some e.0) l ++ t in
      rw (append_assoc (inode.write e.0 ++ (held h).write e.1), (inode then held h).back e r f.0, rows_are (Some e.0) l t f.1)

  pub list-are : (m : Map by_number (HeldUnder h)) (t : List ℕ) → (listed by_number inode (held h)).Fits m
      → list_rows h ((listed by_number inode (held h)).write m ++ t) ≡ map (map_row by_number (piece h)) m.rows
  list-are m t f =
      let n = number_bytes (length m.rows) in
      let r = chain_write (row by_number inode (held h)) (onto by_number inode (held h)) None m.rows in
      rw (append_assoc n r t, number-back last_count refl (length m.rows) (r ++ t) (omega (arith, f.count))) (rows_are None m.rows t f.each)

-- ---- maps as rows

pub layers-snoc : (ls : List Layer) (l : Layer) (ss : List (List Row)) → layers_on (ls ++ (l ∷ [])) ss ≡ record_rows l ∷ layers_on ls ss
unfolding layers_on
layers-snoc [] l ss = refl
layers-snoc (x ∷ ls) l ss = layers-snoc ls l (record_rows x ∷ ss)

layers-ascend : (ls : List Layer) (ss : List (List Row)) → Ascend by_number ss → Ascend by_number (layers_on ls ss)
unfolding layers_on
layers-ascend [] ss a = a
layers-ascend (l ∷ ls) ss a = layers-ascend ls (record_rows l ∷ ss) (map-rising by_number of_record l.rows l.rising, a)

over-ascend : (b : Base) (ls : List Layer) → Ascend by_number (layers_on ls (node_rows b ∷ []))
over-ascend b ls = layers-ascend ls (node_rows b ∷ []) (map-rising by_number of_node b.rows b.rising, tt)

-- ---- where layers stand

pub count-layers : (bs : List Batch) (live : Layer) → length (with_live bs live) ≡ length bs + 1
count-layers [] live = refl
count-layers (b ∷ bs) live = omega (arith, count-layers bs live)

pub layer_fits : (bs : List Batch) (live : Layer) (i : ℕ) → Every FitsBatch bs → records.Fits live → i < length (with_live bs live)
    → records.Fits (get_or (with_live bs live) i (empty by_number))
unfolding layer_record
layer_fits [] live zero f g h = g
layer_fits [] live (suc i) f g h = absurd (omega arith)
layer_fits (b ∷ bs) live zero f g h = f.0.records
layer_fits (b ∷ bs) live (suc i) f g h = layer_fits bs live i f.1 g (omega arith)

pub live-fits : (s : Store) → FitsStore s → records.Fits s.live
unfolding layer_record
live-fits s f = f.live

lead-batch : (bs : List Batch) (i : ℕ) → Every FitsBatch bs → i < length bs → (h : HeadParts) × (lead bs i ≡ batch_head.write h) × batch_head.Fits h
unfolding lead
lead-batch [] i f h = absurd (omega arith)
lead-batch (b ∷ bs) zero f h = let g = f.0 in (head_of b, refl, (g.id, (g.bytes, (g.operations, (g.reason, g.committed)))))
lead-batch (b ∷ bs) (suc i) f h = lead-batch bs i f.1 (omega arith)

lead-live : (bs : List Batch) (i : ℕ) → length bs ≤ i → lead bs i ≡ []
unfolding lead
lead-live [] i h = refl
lead-live (b ∷ bs) zero h = absurd (omega arith)
lead-live (b ∷ bs) (suc i) h = lead-live bs i (omega arith)

-- the first of the layers from one on
layer-first : (bs : List Batch) (live : Layer) (i : ℕ) → i < length (with_live bs live)
    → layer_bytes bs live i ≡ lead bs i ++ (records.write (get_or (with_live bs live) i (empty by_number)) ++ layer_bytes bs live (suc i))
unfolding lead layer_bytes queue_bytes
layer-first [] live zero h = sym (append-nil (records.write live))
layer-first [] live (suc i) h = absurd (omega arith)
layer-first (b ∷ []) live zero h = simp append_assoc
layer-first (b ∷ (a ∷ bs)) live zero h = simp append_assoc
layer-first (b ∷ bs) live (suc i) h = layer-first bs live i (omega arith)

-- ---- a number holds the count of the rows

Small : Layer → Type 0
Small l = length l.rows ≤ last_count

total-on : (ls : List Layer) (ss : List (List Row)) → Every Small ls → total (layers_on ls ss) ≤ length ls * last_count + total ss
unfolding layers_on total Small
total-on [] ss h = omega arith
total-on (l ∷ ls) ss h = omega (arith, total-on ls (record_rows l ∷ ss) h.1, h.0, length-map l.rows (map_row by_number of_record))

layers-small : (bs : List Batch) (live : Layer) → Every FitsBatch bs → Small live → Every Small (with_live bs live)
unfolding Small
layers-small [] live h k = (k, tt)
layers-small (b ∷ bs) live h k = (let c = h.0.records.count in omega arith, layers-small bs live h.1 k)

every_take : {A : Type 0} (P : A → Type 0) (n : ℕ) (l : List A) → Every P l → Every P (take n l)
every_take P zero l h = tt
every_take P (suc n) [] h = tt
every_take P (suc n) (a ∷ l) h = (h.0, every_take P n l h.1)

take-few : {A : Type 0} (n : ℕ) (l : List A) → length (take n l) ≤ length l
take-few zero l = omega arith
take-few (suc n) [] = omega arith
take-few (suc n) (a ∷ l) = omega (arith, take-few n l)

few-layers : (s : Store) → FitsStore s → length (layers s) ≤ 17
unfolding batches
few-layers s f = let c = f.batches.count in omega (arith, count-layers s.batches s.live)

rows-few : (s : Store) (n : ℕ) → FitsStore s → total (layers_on (take n (layers s)) (node_rows s.base ∷ [])) ≤ edge
unfolding total Small
rows-few s n f =
    let ls = take n (layers s) in
    let small : Every Small ls = every_take Small n (layers s) (layers-small s.batches s.live f.batches.each (let c = f.live.count in omega arith)) in
    let rows = total-on ls (node_rows s.base ∷ []) small in
    let c = f.base.count in
    omega (arith, rows, take-few n (layers s), few-layers s f, length-map s.base.rows (map_row by_number of_node))

-- ---- the loop

-- what is known of the image where the walk starts
pub record Given (img : List ℕ) (s : Store) (batches first n tail : ℕ) : Type 0 where
  pub fits : FitsStore s
  pub nodes : list_rows H.Node img ≡ node_rows s.base
  pub count : batches ≡ length s.batches
  pub stands : Spans img first (layer_bytes s.batches s.live 0) tail
  pub many : n ≤ length (layers s)

-- of the n layers the lowest i are opened
pub record Opening (img : List ℕ) (n batches first end top : ℕ) (base : Option Run) (runs : List (Option Run)) (i : ℕ) : Type 0 where
  pub low : i ≤ n
  pub wide : length runs ≡ n
  pub sound : All (Sound img H.Record) (take i runs)
  pub are : (s : Store) (tail : ℕ) → Given img s batches first n tail → sources_to img base runs i ≡ layers_on (take i (layers s)) (node_rows s.base ∷ [])
  pub at : (s : Store) (tail : ℕ) → Given img s batches first n tail → TopAt img s tail i top end

pub opening-start : {img : List ℕ} {base : Option Run} → ListOf img H.Node 0 base → {n batches first : ℕ} {runs : List (Option Run)} → length runs ≡ n
    → Opening img n batches first first first base runs 0
unfolding layers_on layers_over
opening-start {img} o l = record {
  low = omega arith;
  wide = l;
  sound = All-nil (Sound img H.Record);
  are = λ s tail g. rw (o.are ∙ g.nodes);
  at = λ s tail g. record { top = λ h. absurd (omega arith); rest = g.stands };
}

-- where the records of layer i start, which is from `here`: after the head of a batch
pub record Starts (img : List ℕ) (batches i here at : ℕ) : Type 0 where
  pub headed : i < batches → (o : Result ℕ Fault) × Ends img batch_head.read here o × (at ≡ result_unwrap_or o 0)
  pub plain : batches ≤ i → at ≡ here

module _ {img : List ℕ} {batches i here : ℕ} where
  pub starts-head : i < batches → {o : Result ℕ Fault} → Ends img batch_head.read here o → {at : ℕ} → at ≡ result_unwrap_or o 0 → Starts img batches i here at
  starts-head h e u = record { headed = λ k. (_, e, u); plain = λ k. absurd (omega arith) }

  pub starts-plain : batches ≤ i → Starts img batches i here here
  starts-plain h = record { headed = λ k. absurd (omega arith); plain = λ k. refl }

starts-at : {img : List ℕ} (s : Store) (i : ℕ) {batches here at q : ℕ} → FitsStore s → batches ≡ length s.batches → Starts img batches i here at
    → Spans img here (lead s.batches i) q → at ≡ q
starts-at {img} s i {batches} {here} {at} {q} f e t w =
    ⊎_elim
    (λ (h : i < batches).
    let l = lead-batch s.batches i f.batches.each (omega (arith, e)) in
    let z = rw l.1 at w in
    let x = t.headed h in
    let p = ends-past batch_head {a = l.0} here (omega (arith, z.ends, z.within)) l.2 z.is x.1 in
    let y : p.0 ≡ q = omega (arith, p.2.spans.ends, z.ends) in
    value-is 0 p.1 x.2 ∙ y)
    (λ (h : batches ≤ i).
    let z = rw (lead-live s.batches i (omega (arith, e))) at w in
    t.plain h ∙ (let y : here ≡ q = omega (arith, z.ends) in y))
    (lt-or-ge i batches)

module _ {img : List ℕ} {n batches first end top : ℕ} {base : Option Run} {runs : List (Option Run)} {i : ℕ}
    (g : Opening img n batches first end top base runs i) (h : i < n) {at : ℕ} (t : Starts img batches i end at)
    {run : Option Run} (l : ListOf img H.Record at run)
    {u : Result ℕ Fault} (e : Ends img records.read at u) {to : ℕ} (te : to ≡ result_unwrap_or u 0) where
  -- the layer i, where it stands
  record Layered (s : Store) (tail : ℕ) : Type 0 where
    rows : run_rows img H.Record run ≡ record_rows (layer_at s i)
    spans : Spans img at (records.write (layer_at s i)) to
    rest : Spans img to (layer_bytes s.batches s.live (suc i)) tail

  layered : (s : Store) (tail : ℕ) → Given img s batches first n tail → Layered s tail
  layered s tail v =
      let bs = s.batches in
      let x = layer_at s i in
      let many = v.many in
      let lt : i < length (layers s) = omega arith in
      let fits = layer_fits bs s.live i v.fits.batches.each (live-fits s v.fits) lt in
      let after = layer_bytes bs s.live (suc i) in
      let stands = (g.at s tail v).rest in
      let whole : Spans img end (lead bs i ++ (records.write x ++ after)) tail = rw (layer-first bs s.live i lt) at stands in
      let z : at ≡ end + length (lead bs i) = starts-at s i v.fits v.count t (span-front (lead bs i) (records.write x ++ after) whole) in
      let b : Spans img at (records.write x ++ after) tail = rw z (span-back (lead bs i) (records.write x ++ after) whole) in
      let d : drop at img ≡ records.write x ++ (after ++ drop tail img) = b.is ∙ append_assoc (records.write x) after (drop tail img) in
      let here = span-front (records.write x) after b in
      let p = ends-past records {a = x} at (omega (arith, here.within)) fits d e in
      let y : to ≡ at + length (records.write x) = value-is 0 p.1 te ∙ p.2.spans.ends in
      record {
        rows = rw (l.are, d) (list-are H.Record x (after ++ drop tail img) fits);
        spans = rw y here;
        rest = rw y (span-back (records.write x) after b);
      }

  pub opening-more : Opening img n batches first to at base (set runs i run) (i + 1)
  opening-more =
      let wide = g.wide in
      record {
        low = omega arith;
        wide = length-set runs i run ∙ wide;
        sound = rw (take_more_set runs i run (omega arith)) (All-push (Sound img H.Record) (take i runs) run g.sound l.sound);
        are = λ s tail v.
            let many = v.many in
            let lent : take (i + 1) (layers s) ≡ take i (layers s) ++ (layer_at s i ∷ []) = take_more (layers s) i (empty by_number) (omega arith) in
            rw (over-set img runs i run (run_rows img H.Node base ∷ []) (omega arith), (layered s tail v).rows, g.are s tail v, lent, layers-snoc);
        at = λ s tail v.
            let x = layered s tail v in
            record { top = λ j. let q : i + 1 - 1 ≡ i = omega arith in rw q x.spans; rest = rw add-one x.rest };
      }

pub layers-start : (bs : List Batch) (live : Layer) → layer_bytes bs live 0 ≡ queue_bytes bs ++ records.write live
unfolding layer_bytes queue_bytes
layers-start [] live = refl
layers-start (b ∷ bs) live = refl

module _ {img : List ℕ} {n : ℕ} {p : Sections} {rows : Rows} (a : RowsAt img 16 p.batches rows) where
  given : {s : Store} → Stands img p s → n ≤ length (layers s) → Given img s rows.count rows.first n p.tail
  unfolding node
  given {s} w m =
      record {
        fits = stands-fits w;
        nodes = ap (list_rows H.Node) w.base.is ∙ list-are H.Node s.base (drop p.batches img) (stands-fits w).base;
        count = rows-count w a;
        stands = rw (layers-start) (span-both (rows-queue w a) w.live);
        many = m;
      }

  module _ {end top : ℕ} {base : Option Run} {runs : List (Option Run)} {i : ℕ} (g : Opening img n rows.count rows.first end top base runs i) (h : n ≤ i)
      (all : List (Option Run)) where
    sources-are : (s : Store) → Stands img p s → n ≤ length (layers s)
        → sources_in img (record { base = base; layers = runs ++ drop n all; count = n }) ≡ layers_on (take n (layers s)) (node_rows s.base ∷ [])
    sources-are s w m =
        let low = g.low in
        let wide = g.wide in
        let y : i ≡ n = omega arith in
        let whole : take n runs ≡ runs = take_all n runs (omega arith) in
        rw (take_at runs (drop n all) n wide) (rw (y, whole) at (g.are s p.tail (given w m)))

    opening-ready : ListOf img H.Node 0 base → length all ≡ 17 → (s : Store) → Stands img p s → n ≤ length (layers s)
        → Ready img (record { base = base; layers = runs ++ drop n all; count = n })
    opening-ready o l s w m =
        let are = sources-are s w m in
        let low = g.low in
        let wide = g.wide in
        let few = few-layers s (stands-fits w) in
        let y : i ≡ n = omega arith in
        let whole : take n runs ≡ runs = take_all n runs (omega arith) in
        record {
          whole = record {
            few = record { few = omega (arith, m, few); wide = rw (length-append, length-drop, wide, l) (omega (arith, m, few)) };
            base = o.sound;
            layers = rw (take_at runs (drop n all) n wide) (rw (y, whole) at g.sound);
          };
          ascend = rw are (over-ascend s.base (take n (layers s)));
        }

    opening-few : (s : Store) → Stands img p s → n ≤ length (layers s)
        → length (stacks_of (sources_in img (record { base = base; layers = runs ++ drop n all; count = n }))) ≤ edge
    opening-few s w m =
        let ss = layers_on (take n (layers s)) (node_rows s.base ∷ []) in
        let few = rows-few s n (stands-fits w) in
        rw (sources-are s w m) (omega (arith, few, pile-few by_number laying ss))

    pub opening-all : ListOf img H.Node 0 base → length all ≡ 17
        → OpensLayers img p n (record { runs = record { base = base; layers = runs ++ drop n all; count = n }; top = top; end = end })
    opening-all o l =
        let low = g.low in
        let y : i ≡ n = omega arith in
        record {
          opens = λ s k m.
              let stands = rw y at (g.at s p.tail (given k m)) in
              record { ready = opening-ready o l s k m; are = sources-are s k m; few = opening-few s k m; at = stands };
        }

-- ---- where the records of a batch start

module _ {img : List ℕ} {at : ℕ} {o : Result (BatchHead × ℕ) Fault} (h : Reads img batch_head.read at (meant head_meant o)) where
  pub head-ends : {x : BatchHead} {q : ℕ} → o ≡ Ok (x, q) → Ends img batch_head.read at (Ok q)
  head-ends e = let g = rw e at h in record { same = rw (g.same); within = g.within }

  pub head-stops : {f : Fault} {r : Result ℕ Fault} → o ≡ Err f → r ≡ Err f → Ends img batch_head.read at r
  head-stops e c = let g = rw e at h in rw c (record { same = rw (g.same); within = tt })

pub ruleset heads = (head-ends, head-stops, handed)
