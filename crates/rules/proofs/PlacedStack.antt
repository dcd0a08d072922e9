-- The placed stack of an inode is the stack of its store, and a survey's places are its places.
use Rattle.std.specs.Prelude.{None, Option, Some, Result, Ok, Err}
use mathlib.Core.Path.{◌≡◌, refl, sym, ap, ◌∙◌, subst}
use mathlib.Core.List.{List, [], ◌∷◌, ◌++◌, reverse, reverse_aux}
use Prim.Native.Nat.{ℕ, ◌-◌, ◌≤◌}
use native.Mathlib.Omega.{arith}
use lib.ListN.{length, drop, length-drop}
use lib.Seq.{take-length}
use Rattle.wire.specs.declared.fault.Fault.{Fault}
use Rattle.wire.specs.Parse.{Parsed, fault, got, never-got}
use Rattle.wire.specs.Codec.{Codec, OneForm}
use Rattle.wire.specs.Orders.{by_number}
use Rattle.wire.specs.Maps.{get}
use Rattle.image.specs.Meaning.{Node, Record, Layer, Batch, Store}
use Rattle.image.specs.NodeLayout.{node, base}
use Rattle.image.specs.RecordLayout.{layer_record, records}
use Rattle.image.specs.StoreLayout.{batches, store}
use Rattle.image.specs.Places.{passed, left_at, ends_in, Ends, Holds}
use Rattle.survey.specs.Gathering.{deltas_of}
use Rattle.survey.specs.Survey.{Surveys}
use Rattle.image.specs.RoundTrip.{read_image}
use Rattle.survey.specs.declared.store.Survey.{Survey}
use Rattle.image.proofs.Holding.{suffix-drop, suffix-rest}
use Rattle.survey.proofs.Surveyed.{Sections, sections, read_whole, AllHold, if_there, batch_records, records_of, survey-holds}
use Rattle.rules.specs.Stacks.{over?, stack_on, stack, with_live, layers}
use Rattle.rules.specs.Starts.{Placed}
use Rattle.rules.specs.PlacedStacks.{place_after, node_place, record_places, read_at, node_at, on_top, records_on, placed_records, placed_node, unplaced, unplaced_node}
use Rattle.image.proofs.OneForm.{base-one, batches-one, store-one, records-one}

-- ---- places

-- the place after what was read, or the fault
abbrev ended : {A : Type 0} → List ℕ → Parsed A → Result ℕ Fault
ended img (fault f) = Err f
ended img (got a r) = Ok (length img - length r)

after-place : {A : Type 0} (img : List ℕ) (o : Parsed A) {q : ℕ} → ended img o ≡ Ok q → place_after img o ≡ Some q
after-place img (fault f) e = cc
after-place img (got a r) e = cc

module _ {A : Type 0} {img : List ℕ} (c : Codec A) where
  -- what is read at a place ends at the place after it, or stops with the fault
  after-ends : OneForm c → (at : ℕ) → at ≤ length img → Ends img c.read at (ended img (c.read (drop at img)))
  after-ends one at w = go (c.read (drop at img)) refl
    where
      go : (o : Parsed A) → c.read (drop at img) ≡ o → Ends img c.read at (ended img o)
      go (fault f) e = record { same = rw e; within = tt }
      go (got a r) e =
          let s = suffix-rest c one (suffix-drop img at w) e in
          record { same = rw (e, ← s.is); within = omega arith }

  after-read : OneForm c → (at : ℕ) → at ≤ length img → {a : A} {r : List ℕ} → c.read (drop at img) ≡ got a r → Ends img c.read at (Ok (length img - length r))
  after-read one at w e = subst (λ (o : Parsed A). Ends img c.read at (ended img o)) e (after-ends one at w)

  -- and ends nowhere else
  ends-after : {at : ℕ} (next : Result ℕ Fault) → Ends img c.read at next → ended img (c.read (drop at img)) ≡ next
  ends-after {at} next h = go (c.read (drop at img)) next h.same h.within
    where
      go : (o : Parsed A) (next : Result ℕ Fault) → passed o ≡ left_at img next → ends_in img next → ended img o ≡ next
      go (fault f) (Ok q) e w = never-got e
      go (fault f) (Err g) e w = cc
      go (got a r) (Err g) e w = never-got (sym e)
      go (got a r) (Ok q) e w =
          let z : r ≡ drop q img = cc in
          let l : length img - length r ≡ q = rw z (omega (arith, length-drop q img)) in
          ap Ok l

  place-ends : {at q : ℕ} → Ends img c.read at (Ok q) → place_after img (c.read (drop at img)) ≡ Some q
  place-ends {at} {q} h = after-place img (c.read (drop at img)) (ends-after (Ok q) h)

-- The places that a survey found are the places of the definitions.
pub survey-node : {img : List ℕ} {i : ℕ} {r : Survey} → Surveys img i r → r.stack.base ≡ node_place img i
unfolding node_place
survey-node w = w.node

pub survey-records : {img : List ℕ} {i : ℕ} {r : Survey} → Surveys img i r → deltas_of r.stack ≡ record_places img i
unfolding record_places
survey-records {r = r} w = rw (place-ends base w.base, place-ends batches w.batches) w.deltas

-- An image that is read has a survey.
module _ (img : List ℕ) (i : ℕ) {s : Store} (e : read_image img ≡ got s []) where
  abbrev parts : Sections img s
  parts = sections img (read_whole img e)

  abbrev after_base : ℕ
  after_base = length img - length parts.r1

  abbrev after_batches : ℕ
  after_batches = length img - length parts.r2

  abbrev surveyed : Survey
  surveyed = record {
    stack = record { base = node_place img i; deltas = record_places img i; count = length (record_places img i) };
    sections = record { batches = after_base; live = after_batches; tail = length img - length parts.r3 };
    end = length img - length {A = ℕ} [];
  }

  surveys : Surveys img i surveyed
  unfolding node_place record_places
  surveys =
      let b = after-read {img = img} base base-one 0 (omega arith) parts.at_base in
      let u : drop after_base img ≡ parts.r1 = sym (suffix-rest base base-one (suffix-drop img 0 (omega arith)) parts.at_base).is in
      let x : batches.read (drop after_base img) ≡ got s.batches parts.r2 = rw u parts.at_batches in
      let l = after-read {img = img} batches batches-one after_base b.within x in
      let v : drop after_batches img ≡ parts.r2 = sym (suffix-rest batches batches-one (suffix-drop img after_base b.within) x).is in
      let y : records.read (drop after_batches img) ≡ got s.live parts.r3 = rw v parts.at_live in
      record {
        ends = after-read {img = img} store store-one 0 (omega arith) (read_whole img e);
        base = b;
        batches = l;
        live = after-read {img = img} records records-one after_batches l.within y;
        node = refl;
        deltas = take-length (record_places img i) ∙ rw (place-ends base b, place-ends batches l) refl;
      }

-- ---- what they hold

-- The node and the records of an inode stand at its places.
pub places-hold : (img : List ℕ) (i : ℕ) {s : Store} → read_image img ≡ got s []
    → Holds img node.read (node_place img i) (get by_number i s.base) × AllHold img layer_record.read (record_places img i) (records_of i s)
places-hold img i e =
    let h = survey-holds (surveys img i e) e in
    (h.node_held, rw (take-length (record_places img i)) at h.records_held)

node-read : (img : List ℕ) (o : Option ℕ) (n : Option Node) → Holds img node.read o n → unplaced_node (node_at img o) ≡ n
node-read img None None h = refl
node-read img None (Some n) h = absurd h
node-read img (Some p) None h = absurd h
node-read img (Some p) (Some n) h = rw h.1

records-read : (img : List ℕ) (ps : List ℕ) (l : List Record) (rs : List (Placed Record)) → AllHold img layer_record.read ps l
    → unplaced (records_on img ps rs) ≡ reverse_aux l (unplaced rs)
unfolding records_on
records-read img [] [] rs h = refl
records-read img [] (a ∷ l) rs h = absurd h
records-read img (p ∷ ps) [] rs h = absurd h
records-read img (p ∷ ps) (a ∷ l) rs h = rw h.0.1 (records-read img ps l (record { place = p; held = a } ∷ rs) h.1)

-- Records front first are the stack from its lowest on.
stack-on : (i : ℕ) (bs : List Batch) (live : Layer) (rs : List Record)
    → stack_on i (with_live bs live) rs ≡ reverse_aux (batch_records i bs ++ if_there (get by_number i live)) rs
unfolding stack_on
stack-on i [] live rs = go (get by_number i live)
  where
    go : (o : Option Record) → over? o rs ≡ reverse_aux (if_there o) rs
    go None = refl
    go (Some r) = refl
stack-on i (b ∷ bs) live rs = go (get by_number i b.records) (stack-on i bs live)
  where
    go : (o : Option Record) → ((us : List Record) → stack_on i (with_live bs live) us ≡ reverse_aux (batch_records i bs ++ if_there (get by_number i live)) us)
        → stack_on i (with_live bs live) (over? o rs) ≡ reverse_aux ((if_there o ++ batch_records i bs) ++ if_there (get by_number i live)) rs
    go None ih = ih rs
    go (Some r) ih = ih (r ∷ rs)

pub stack-records : (i : ℕ) (s : Store) → stack i (layers s) ≡ reverse (records_of i s)
stack-records i s = stack-on i s.batches s.live []

-- The placed stack, without its places, is the stack of the store that the image is read as.
pub placed-stack : (img : List ℕ) (i : ℕ) {s : Store} → read_image img ≡ got s [] → unplaced (placed_records img i) ≡ stack i (layers s)
placed-stack img i {s} e = records-read img (record_places img i) (records_of i s) [] (places-hold img i e).1 ∙ sym (stack-records i s)

pub placed-node : (img : List ℕ) (i : ℕ) {s : Store} → read_image img ≡ got s [] → unplaced_node (placed_node img i) ≡ get by_number i s.base
placed-node img i {s} e = node-read img (node_place img i) (get by_number i s.base) (places-hold img i e).0

-- One place more is one record more on top.
pub records-snoc : (img ps : List ℕ) (p : ℕ) (rs : List (Placed Record)) → records_on img (ps ++ (p ∷ [])) rs ≡ on_top (read_at layer_record img p) (records_on img ps rs)
unfolding records_on
records-snoc img [] p rs = refl
records-snoc img (x ∷ ps) p rs = records-snoc img ps p (on_top (read_at layer_record img x) rs)
