-- What a survey of an image found is what its store has: the node of the inode, and its record in each layer.
-- Assumes nothing.
use mathlib.Core.Path.{◌≡◌, refl, sym, ap, ◌∙◌, subst}
use mathlib.Core.List.{List, [], ◌∷◌, ◌++◌}
use Prim.Native.Nat.{ℕ, zero, suc, ◌-◌, ◌≤◌}
use native.Mathlib.Omega.{arith}
use lib.ListN.{length, drop}
use Rattle.wire.specs.Parse.{Parsed, fault, got, bind, never-got, bind_inv}
use Rattle.std.specs.Prelude.{Ok, None, Option, Some}
use Rattle.wire.specs.Codec.{Codec, whole, decode}
use Rattle.wire.specs.Combinators.{◌then◌, seq}
use Rattle.wire.specs.declared.time.Time.{Time}
use Rattle.wire.specs.Number.{number_read, number_to, between}
use Rattle.wire.specs.Lists.{row}
use Rattle.wire.specs.Orders.{by_number}
use Rattle.wire.specs.Maps.{get}
use Rattle.image.specs.Meaning.{Record, Layer, Batch, Store}
use Rattle.image.specs.FieldLayout.{inode, word, moment}
use Rattle.image.specs.NodeLayout.{node, base}
use Rattle.image.specs.RecordLayout.{layer_record, records}
use Rattle.image.specs.StoreLayout.{BatchRest, batch_rest, batch_of, batches, next_id, store_of, store}
use Rattle.image.specs.Places.{Ends, Holds, rows_from, place_in}
use Rattle.survey.specs.Gathering.{list_if, deltas_of, batch_head, record_place, or_none, as_option, batch_places, queue_rows, queue_places}
use Rattle.survey.specs.Survey.{Surveys}
use Rattle.image.specs.RoundTrip.{read_image}
use Rattle.survey.specs.declared.store.Survey.{Survey}
use Rattle.image.proofs.Holding.{Suffix, suffix-drop, suffix-rest, apart, list-holds}
use Rattle.survey.proofs.Stores.{batches_of, batches-rows, rest_of}
use Rattle.wire.proofs.NumberForms.{number_to-one}
use Rattle.image.proofs.OneForm.{inode-one, node-one, layer_record-one, records-one}
use Rattle.survey.proofs.OneForm.{batch_head-one}

-- the first of two, and what the second is read from
module _ {A B : Type 0} (c : Codec A) (d : A → Codec B) where
  record Two (s : List ℕ) (x : A × B) (r : List ℕ) : Type 0 where
    mid : List ℕ
    front : c.read s ≡ got x.0 mid
    back : (d x.0).read mid ≡ got x.1 r

  two : (s : List ℕ) {x : A × B} {r : List ℕ} → (seq c d).read s ≡ got x r → Two s x r
  two s {x} {r} e =
      let i = bind_inv (c.read s) (λ a t. bind ((d a).read t) (λ b q. got (pair a b) q)) e in
      let j = bind_inv ((d i.0).read i.1) (λ b q. got (pair i.0 b) q) i.3 in
      let e1 : got (pair i.0 j.0) j.1 ≡ got x r = j.3 in
      let ex : pair i.0 j.0 ≡ x = cc in
      let er : j.1 ≡ r = cc in
      subst (λ (y : A × B). Two s y r) ex (record { mid = i.1; front = i.2; back = j.2 ∙ ap (got j.0) er })
    where
      pair : A → B → A × B
      pair a b = (a, b)

-- the same bytes, made another value
made-inv : {A B : Type 0} (f : A → B) (o : Parsed A) {b : B} {r : List ℕ} → bind o (λ a t. got (f a) t) ≡ got b r → (a : A) × (o ≡ got a r) × (f a ≡ b)
made-inv f (fault y) e = never-got e
made-inv f (got a t) {r = r} e = let z : t ≡ r = cc in (a, ap (got a) z, cc)

-- the sections of a store that was read
pub record Sections (s : List ℕ) (st : Store) : Type 0 where
  pub r1 : List ℕ
  pub r2 : List ℕ
  pub r3 : List ℕ
  pub at_base : base.read s ≡ got st.base r1
  pub at_batches : batches.read r1 ≡ got st.batches r2
  pub at_live : records.read r2 ≡ got st.live r3

pub sections : (s : List ℕ) {st : Store} {r : List ℕ} → store.read s ≡ got st r → Sections s st
unfolding store
sections s {st} {r} e =
    let m = made-inv store_of ((seq base (λ _. seq batches rest_of)).read s) e in
    let a = two base (λ _. seq batches rest_of) s m.1 in
    let b = two batches rest_of a.mid a.back in
    let l = two records (λ _. next_id m.0.1.0 then word then word then number_to 5 refl) b.mid b.back in
    subst (Sections s) m.2
    (record { r1 = a.mid; r2 = b.mid; r3 = l.mid; at_base = a.front; at_batches = b.front; at_live = l.front })

-- ---- places that hold

-- each place holds the value beside it
abbrev pub AllHold : {A : Type 0} → List ℕ → (List ℕ → Parsed A) → List ℕ → List A → Type 0
AllHold img p [] [] = Unit {0}
AllHold img p [] (a ∷ l) = ⊥
AllHold img p (n ∷ ns) [] = ⊥
AllHold img p (n ∷ ns) (a ∷ l) = ((r : List ℕ) × (p (drop n img) ≡ got a r)) × AllHold img p ns l

abbrev pub if_there : {A : Type 0} → Option A → List A
if_there None = []
if_there (Some a) = a ∷ []

hold-more : {A : Type 0} (img : List ℕ) (p : List ℕ → Parsed A) (o : Option ℕ) (a : Option A) (ns : List ℕ) (l : List A) → Holds img p o a → AllHold img p ns l
    → AllHold img p (list_if o ++ ns) (if_there a ++ l)
hold-more img p None None ns l h k = k
hold-more img p None (Some a) ns l h k = absurd h
hold-more img p (Some n) None ns l h k = absurd h
hold-more img p (Some n) (Some a) ns l h k = (h, k)

-- the records of an inode in batches, front first
abbrev pub batch_records : ℕ → List Batch → List Record
batch_records i [] = []
batch_records i (b ∷ bs) = if_there (get by_number i b.records) ++ batch_records i bs

-- the same in all layers, live last
abbrev pub records_of : ℕ → Store → List Record
records_of i s = batch_records i s.batches ++ if_there (get by_number i s.live)

module _ (img : List ℕ) (i : ℕ) where
  -- the records of a batch
  record-holds : (s : List ℕ) {m : Layer} {r : List ℕ} → Suffix img s → records.read s ≡ got m r
      → Holds img layer_record.read (record_place (length img) i s) (get by_number i m)
  record-holds s {m} {r} w e =
      let h = list-holds by_number inode layer_record img i inode-one layer_record-one (length img - length s) (omega arith) (rw w.is at e) in
      rw w.is h

  -- a batch: its head, and its records
  record Apart (s : List ℕ) (e : ℕ × BatchRest) (q : List ℕ) : Type 0 where
    head : ℕ × (ℕ × (ℕ × (ℕ × Time)))
    mid : List ℕ
    headed : batch_head.read s ≡ got head mid
    recorded : records.read mid ≡ got (batch_of e).records q

  batch-apart : (prev : Option ℕ) (s : List ℕ) {e : ℕ × BatchRest} {q : List ℕ} → (row by_number inode batch_rest prev).read s ≡ got e q → Apart s e q
  batch-apart prev s {e} {q} d =
      let a = apart by_number inode batch_rest img i prev s d in
      let b = two word (λ _. word then between 1 5 refl then moment then records) a.mid a.valued in
      let o = two word (λ _. between 1 5 refl then moment then records) b.mid b.back in
      let r = two (between 1 5 refl) (λ _. moment then records) o.mid o.back in
      let m = two moment (λ _. records) r.mid r.back in
      record {
        head = (e.0, (e.1.0, (e.1.1.0, (e.1.1.1.0, e.1.1.1.1.0))));
        mid = m.mid;
        headed = rw (a.keyed, b.front, o.front, r.front, m.front);
        recorded = m.back;
      }

  -- one batch and those after it
  batch-holds : (n : ℕ) (s : List ℕ) (e : ℕ × BatchRest) (q : List ℕ) (bs : List Batch) → Suffix img s → Apart s e q
      → (Suffix img q → AllHold img layer_record.read (batch_places (length img) i n q) (batch_records i bs))
      → AllHold img layer_record.read (batch_places (length img) i (suc n) s) (batch_records i (batch_of e ∷ bs))
  unfolding batch_places
  batch-holds n s e q bs w a ih =
      let u = suffix-rest batch_head batch_head-one w a.headed in
      let v = suffix-rest records records-one u a.recorded in
      rw (a.headed, a.recorded)
      (hold-more img layer_record.read (record_place (length img) i a.mid) (get by_number i (batch_of e).records) (batch_places (length img) i n q)
      (batch_records i bs)
      (record-holds a.mid u a.recorded) (ih v))

  none-batches : (s : List ℕ) (l : List (ℕ × BatchRest)) → [] ≡ l → AllHold img layer_record.read (batch_places (length img) i 0 s)
      (batch_records i (batches_of l))
  unfolding batch_places batches_of
  none-batches s [] e = tt
  none-batches s (x ∷ l) e = cc

  batches-hold : (n : ℕ) (prev : Option ℕ) (s : List ℕ) {l : List (ℕ × BatchRest)} {r : List ℕ} → Suffix img s → rows_from by_number inode batch_rest n prev s
      ≡ got l r
      → AllHold img layer_record.read (batch_places (length img) i n s) (batch_records i (batches_of l))
  unfolding batches_of
  batches-hold zero prev s {l} w d = none-batches s l cc
  batches-hold (suc n) prev s {l} {r} w d =
      let x = bind_inv ((row by_number inode batch_rest prev).read s) (λ a t. bind (rows_from by_number inode batch_rest n (Some a.0) t)
      (λ m q. got (a ∷ m) q)) d in
      let y = bind_inv (rows_from by_number inode batch_rest n (Some x.0.0) x.1) (λ m q. got (x.0 ∷ m) q) x.3 in
      let e1 : got (x.0 ∷ y.0) y.1 ≡ got l r = y.3 in
      let el : x.0 ∷ y.0 ≡ l = cc in
      subst (λ (m : List (ℕ × BatchRest)). AllHold img layer_record.read (batch_places (length img) i (suc n) s) (batch_records i (batches_of m))) el
      (batch-holds n s x.0 x.1 (batches_of y.0) w (batch-apart prev s x.2) (λ u. batches-hold n (Some x.0.0) x.1 u y.2))

-- ---- the whole survey

-- where a construct that was read ends
ends-place : {A : Type 0} {img : List ℕ} {p : List ℕ → Parsed A} {n m : ℕ} {a : A} {t : List ℕ} → Ends img p n (Ok m) → p (drop n img) ≡ got a t → drop m img
    ≡ t
ends-place {img = img} {m = m} {a} {t} h e = let d = rw e at h.same in cc

pub read_whole : (s : List ℕ) {st : Store} → read_image s ≡ got st [] → store.read s ≡ got st []
unfolding decode
read_whole s {st} e = go (store.read s) e
  where
    go : (o : Parsed Store) → whole o ≡ got st [] → o ≡ got st []
    go (fault f) d = never-got d
    go (got x []) d = d
    go (got x (y ∷ r)) d = never-got d

hold-last : {A : Type 0} (img : List ℕ) (p : List ℕ → Parsed A) (ns : List ℕ) (l : List A) (o : Option ℕ) (a : Option A) → AllHold img p ns l → Holds img p o a
    → AllHold img p (ns ++ list_if o) (l ++ if_there a)
hold-last img p [] [] None None h k = tt
hold-last img p [] [] None (Some a) h k = absurd k
hold-last img p [] [] (Some n) None h k = absurd k
hold-last img p [] [] (Some n) (Some a) h k = (k, tt)
hold-last img p [] (x ∷ l) o a h k = absurd h
hold-last img p (n ∷ ns) [] o a h k = absurd h
hold-last img p (n ∷ ns) (x ∷ l) o a h k = (h.0, hold-last img p ns l o a h.1 k)

-- the places in the list of batches
queue-holds : (img : List ℕ) (i n : ℕ) {bs : List Batch} {r : List ℕ} → n ≤ length img → batches.read (drop n img) ≡ got bs r
    → AllHold img layer_record.read (queue_places img i n) (batch_records i bs)
queue-holds img i n {bs} {r} h e =
    let m = made-inv batches_of (queue_rows.read (drop n img)) (sym (batches-rows (drop n img)) ∙ e) in
    let c = bind_inv (number_read 16 (drop n img)) (λ k t. rows_from by_number inode batch_rest k None t) m.1 in
    let w = suffix-rest (number_to 16 refl) (number_to-one 16 refl) (suffix-drop img n h) c.2 in
    let q : queue_places img i n ≡ batch_places (length img) i c.0 c.1 =
    ap (λ (o : Parsed ℕ). or_none (as_option o) (λ p. batch_places (length img) i p.0 p.1)) c.2 in
    subst (λ (l : List ℕ). AllHold img layer_record.read l (batch_records i bs)) (sym q)
    (subst (λ (l : List Batch). AllHold img layer_record.read (batch_places (length img) i c.0 c.1) (batch_records i l)) m.2
    (batches-hold img i c.0 None c.1 w c.3))

-- What a survey found of an inode is what the image's store has: its node, and its record in each layer that has one, the front batch's first.
pub record SurveyHolds (img : List ℕ) (i : ℕ) (r : Survey) (s : Store) : Type 0 where
  pub node_held : Holds img node.read r.stack.base (get by_number i s.base)
  pub records_held : AllHold img layer_record.read (deltas_of r.stack) (records_of i s)

pub survey-holds : {img : List ℕ} {i : ℕ} {r : Survey} {s : Store} → Surveys img i r → read_image img ≡ got s [] → SurveyHolds img i r s
survey-holds {img} {i} {r} {s} w e =
    let d = read_whole img e in
    let x = sections img d in
    let b = ends-place w.base x.at_base in
    let eb : batches.read (drop r.sections.batches img) ≡ got s.batches x.r2 = rw b x.at_batches in
    let l = ends-place w.batches eb in
    let el : records.read (drop r.sections.live img) ≡ got s.live x.r3 = rw l x.at_live in
    record {
      node_held = rw w.node (list-holds by_number inode node img i inode-one node-one 0 (omega arith) x.at_base);
      records_held =
          rw w.deltas
          (hold-last img layer_record.read (queue_places img i r.sections.batches) (batch_records i s.batches) (place_in by_number inode layer_record img i r.sections.live)
          (get by_number i s.live) (queue-holds img i r.sections.batches w.base.within eb)
          (list-holds by_number inode layer_record img i inode-one layer_record-one r.sections.live w.batches.within el));
    }
