-- A whole store: its batches as rows, and next id above them.
-- Assumes nothing.
use mathlib.Core.Path.{◌≡◌, refl, sym, ap, ◌∙◌}
use mathlib.Core.Bool.{Bool, true, false, cond}
use mathlib.Core.List.{List, [], ◌∷◌}
use Prim.Native.Nat.{ℕ, zero, suc, ◌≤◌, ◌<◌}
use native.Mathlib.Omega.{arith}
use lib.Dec.{ltb}
use lib.ListN.{length, get_or, drop, drop_of_length-le}
use lib.Seq.{drop-cons}
use borrow.Author.Tests.{lt-ltb, le-ltb, ltb-false}
use Rattle.wire.specs.declared.fault.Fault.{Fault}
use Rattle.wire.specs.declared.fault.Fault.TheVariants.{Malformed}
use Rattle.std.specs.Prelude.{Result, Ok, Err, Some, None, Option}
use Rattle.std.specs.Prelude.{Option}
use Rattle.std.specs.declared.cmp.Ordering.TheVariants.{Less, Equal, Greater}
use Rattle.wire.specs.Parse.{Parsed, fault, got, bind, check}
use Rattle.wire.specs.Codec.{Codec, decode}
use Rattle.wire.specs.Combinators.{◌then◌, seq, only}
use Rattle.wire.specs.Number.{number_read, number_to}
use Rattle.wire.specs.Orders.{by_number, cmp_n, says}
use Rattle.wire.specs.Rows.{Under, Rising}
use Rattle.wire.specs.Lists.{chain_read, row, after, is_less}
use Rattle.image.specs.Meaning.{Layer, Batch}
use Rattle.image.specs.FieldLayout.{inode, word}
use Rattle.image.specs.NodeLayout.{base}
use Rattle.image.specs.RecordLayout.{records}
use Rattle.image.specs.StoreLayout.{BatchRest, batch_rest, batch_of, batch_after, id_of, batches, ids_below, next_id, store_of, store}
use Rattle.image.specs.Places.{passed, Ends, rows_from, last_key, last_of}
use Rattle.survey.specs.Gathering.{queue_rows, Pushed, GathersQueue}
use Rattle.passes.specs.Held.{Finds}
use Rattle.survey.specs.Survey.{tail_after, Surveyed, stop_at, Stops, SurveyOf}
use Rattle.survey.specs.Verdict.{verdict_of, Judges}
use Rattle.survey.specs.declared.refusal.Refusal.{Refusal}
use Rattle.survey.specs.declared.store.Survey.{Survey}
use Rattle.survey.specs.declared.store.Stop.{Stop}
use Rattle.survey.specs.declared.refusal.Refusal.TheVariants.{ImageTooLong, ImageBroken}
use Rattle.passes.specs.declared.inode.Held.TheVariants as H
use Rattle.survey.specs.declared.batch.InodeLayerStack.{InodeLayerStack}
use Rattle.survey.specs.declared.batch.Batches.{Batches}
use Rattle.image.proofs.Passing.{passed-made, ends-got, ends-fault, ends-made, ends-then, ends-stop}
use Rattle.wire.proofs.Readers.{handed}
use Rattle.wire.proofs.ListForms.{all-rising}
use Rattle.survey.proofs.OneForm.{queue_rows-one}

-- ---- batches are rows by id

unfoldable pub batches_of : List (ℕ × BatchRest) → List Batch
batches_of [] = []
batches_of (p ∷ l) = batch_of p ∷ batches_of l

abbrev pub batches_read : Parsed (List (ℕ × BatchRest)) → Parsed (List Batch)
batches_read o = bind o (λ l r. got (batches_of l) r)

made : (p : ℕ × BatchRest) (o : Parsed (List (ℕ × BatchRest))) → bind (batches_read o) (λ l q. got (batch_of p ∷ l) q) ≡ batches_read
    (bind o (λ l q. got (p ∷ l) q))
unfolding batches_of
made p (fault f) = refl
made p (got l q) = refl

-- one batch, and those after it
first_made : (o : Parsed (ℕ × BatchRest)) (k : ℕ → List ℕ → Parsed (List Batch)) (j : ℕ → List ℕ → Parsed (List (ℕ × BatchRest)))
    → ((i : ℕ) (r : List ℕ) → k i r ≡ batches_read (j i r))
    → bind (bind o (λ p r. got (batch_of p) r)) (λ b r. bind (k b.id r) (λ l q. got (b ∷ l) q)) ≡ batches_read
    (bind o (λ p r. bind (j p.0 r) (λ l q. got (p ∷ l) q)))
unfolding batches_of
first_made (fault f) k j h = refl
first_made (got p r) k j h = rw (h p.0 r) (made p (j p.0 r))

chain-batches : (n : ℕ) (prev : Option ℕ) (s : List ℕ) → chain_read batch_after id_of n prev s ≡ batches_read (rows_from by_number inode batch_rest n prev s)
unfolding batch_after batches_of
chain-batches zero prev s = refl
chain-batches (suc n) prev s =
    first_made ((row by_number inode batch_rest prev).read s) (λ i r. chain_read batch_after id_of n (Some i) r)
    (λ i r. rows_from by_number inode batch_rest n (Some i) r)
    (λ i r. chain-batches n (Some i) r)

counted-made : (o : Parsed ℕ) → bind o (λ n r. chain_read batch_after id_of n None r) ≡ batches_read
    (bind o (λ n r. rows_from by_number inode batch_rest n None r))
counted-made (fault f) = refl
counted-made (got n r) = chain-batches n None r

pub batches-rows : (s : List ℕ) → batches.read s ≡ batches_read (queue_rows.read s)
unfolding batches
batches-rows s = counted-made (number_read 16 s)

-- ---- next id is above every id if it is above the last

is_below : (m k : ℕ) → cmp_n m k ≡ Less → m < k
is_below m k e = rw e at (says m k)

-- the last key is above those before it
under_last : (m k : ℕ) (l : List (ℕ × BatchRest)) → m < k → Under by_number m l → (j : ℕ) → last_key (Some k) l ≡ Some j → m < j
under_last m k [] h u j e = let z : k ≡ j = cc in omega arith
under_last m k (p ∷ l) h u j e = under_last m p.0 l (is_below m p.0 u.0) u.1 j e

last_some : (k : ℕ) (l : List (ℕ × BatchRest)) → (j : ℕ) × (last_key (Some k) l ≡ Some j)
last_some k [] = (k, refl)
last_some k (p ∷ l) = last_some p.0 l

less-test : (a n : ℕ) → is_less (cmp_n a n) ≡ ltb a n
less-test a n = go (ltb a n) refl (ltb n a)
  where
    go : (s : Bool) → ltb a n ≡ s → (t : Bool) → is_less (cond s Less (cond t Greater Equal)) ≡ s
    go true e t = refl
    go false e true = refl
    go false e false = refl

above-last : (p : ℕ × BatchRest) (l : List (ℕ × BatchRest)) (n : ℕ) → Under by_number p.0 l → Rising by_number l
    → ids_below (batches_of (p ∷ l)) n ≡ after by_number (last_key (Some p.0) l) n
unfolding batches_of
above-last p [] n u r = go (ltb p.0 n) refl
  where
    go : (t : Bool) → ltb p.0 n ≡ t → cond (ltb p.0 n) true false ≡ is_less (cmp_n p.0 n)
    go true e = rw (less-test, e)
    go false e = rw (less-test, e)
above-last p (q ∷ l) n u r = go (ltb p.0 n) refl (above-last q l n r.0 r.1) (last_some q.0 l)
  where
    go : (t : Bool) → ltb p.0 n ≡ t → ids_below (batches_of (q ∷ l)) n ≡ after by_number (last_key (Some q.0) l) n
        → (j : ℕ) × (last_key (Some q.0) l ≡ Some j)
        → cond (ltb p.0 n) (ids_below (batches_of (q ∷ l)) n) false ≡ after by_number (last_key (Some q.0) l) n
    go true e ih j = rw e ih
    go false e ih j =
        let h : p.0 < j.0 = under_last p.0 q.0 l (is_below p.0 q.0 u.0) u.1 j.0 j.1 in
        let g : n ≤ p.0 = ltb-false p.0 n e in
        rw (e, j.1, less-test) (sym (le-ltb j.0 n (omega arith)))

ids-last : (l : List (ℕ × BatchRest)) (n : ℕ) → Rising by_number l → ids_below (batches_of l) n ≡ after by_number (last_key None l) n
unfolding batches_of
ids-last [] n r = refl
ids-last (p ∷ l) n r = above-last p l n r.0 r.1

-- ---- what follows the batches

module _ (t u : ℕ → Bool) (h : (n : ℕ) → t n ≡ u n) where
  same-judged : (o : Parsed ℕ) → bind o (λ n r. check Malformed (t n) (got n r)) ≡ bind o (λ n r. check Malformed (u n) (got n r))
  same-judged (fault f) = refl
  same-judged (got n r) = rw (h n)

  same_tests : (s : List ℕ) → (only t inode).read s ≡ (only u inode).read s
  same_tests s = same-judged (inode.read s)

-- live, next id as the parser p reads it, the staged counts and the request
abbrev after_batches : (List ℕ → Parsed ℕ) → List ℕ → Parsed (Layer × (ℕ × (ℕ × (ℕ × ℕ))))
after_batches p s =
    bind (records.read s) (λ a r.
    bind (bind (p r) (λ i t. bind ((word then word then number_to 5 refl).read t) (λ b q. got (i, b) q))) (λ b q. got (a, b) q))

abbrev pub rest_of : List Batch → Codec (Layer × (ℕ × (ℕ × (ℕ × ℕ))))
rest_of bs = records then next_id bs then word then word then number_to 5 refl

rest-same : (l : List (ℕ × BatchRest)) (s : List ℕ) → Rising by_number l → (rest_of (batches_of l)).read s ≡ (records then tail_after (last_key None l)).read s
rest-same l s r =
    let f : (only (ids_below (batches_of l)) inode).read ≡ (only (after by_number (last_key None l)) inode).read =
    λ i s. same_tests (ids_below (batches_of l)) (after by_number (last_key None l)) (λ n. ids-last l n r) s i in
    ap (λ (p : List ℕ → Parsed ℕ). after_batches p s) f

batches-passed : (s : List ℕ) → passed (batches.read s) ≡ passed (queue_rows.read s)
batches-passed s = ap passed (batches-rows s) ∙ go (queue_rows.read s)
  where
    go : (o : Parsed (List (ℕ × BatchRest))) → passed (batches_read o) ≡ passed o
    go (fault f) = refl
    go (got l r) = refl

rows-rise : (s : List ℕ) {l : List (ℕ × BatchRest)} {r : List ℕ} → queue_rows.read s ≡ got l r → Rising by_number l
rows-rise s {l} {r} e = (all-rising by_number inode batch_rest None l (queue_rows-one.forth s l r e).1.1.1).1.0

module _ {img : List ℕ} where
  ends-batches : {at : ℕ} {r : Result ℕ Fault} → Ends img queue_rows.read at r → Ends img batches.read at r
  ends-batches {at} h = record { same = batches-passed (drop at img) ∙ h.same; within = h.within }

  -- the batches and what follows them
  ends-queue : {at q : ℕ} {r : Result ℕ Fault} {last : Option ℕ} → Ends img queue_rows.read at (Ok q) → last_of None (queue_rows.read (drop at img)) ≡ got
      last (drop q img)
      → Ends img (records then tail_after last).read q r → Ends img (seq batches rest_of).read at r
  ends-queue {at} {q} {last = last} h d g =
      let e = ends-got h in
      let z : last_key None e.0 ≡ last = let c = rw e.1 at d in cc in
      let b : batches.read (drop at img) ≡ got (batches_of e.0) (drop q img) = batches-rows (drop at img) ∙ rw e.1 in
      record {
        same = rw b (passed-made (λ x. (batches_of e.0, x)) ((rest_of (batches_of e.0)).read (drop q img))
            ∙ ap passed (rest-same e.0 (drop q img) (rows-rise (drop at img) e.1)) ∙ rw z g.same);
        within = g.within;
      }

-- ---- the whole pass, and where it stops

-- a fault as the stop after the sections that were passed
abbrev pub stops_at : {A : Type 0} → Option ℕ → Option ℕ → Option ℕ → Result A Fault → Result A Stop
stops_at b l t (Ok a) = Ok a
stops_at b l t (Err f) = Err (stop_at f b l t)

-- what was read is handed on, and its fault is in the stop
read-on : {A : Type 0} (b l t : Option ℕ) (u : Result A Fault) {m : Result A Stop} {a : A} → m ≡ stops_at b l t u → m ≡ Ok a → u ≡ Ok a
read-on b l t (Ok x) h d = cc
read-on b l t (Err f) h d = absurd (let z = rw d at h in cc)

read-off : {A : Type 0} (b l t : Option ℕ) (u : Result A Fault) {m : Result A Stop} {s : Stop} → m ≡ stops_at b l t u → m ≡ Err s
    → (f : Fault) × (u ≡ Err f) × (s ≡ stop_at f b l t)
read-off b l t (Ok x) h d = absurd (let z = rw d at h in cc)
read-off b l t (Err f) h d = (f, refl, cc)

stops : {img : List ℕ} (sought : ℕ) {s t : Stop} {r : Result Survey Stop} → r ≡ Err s → s ≡ t → Stops img t → SurveyOf img sought r
stops sought e d h = rw (e, d) h

-- each section is read as `m` has it, whose fault is made a stop
module _ {img : List ℕ} {sought : ℕ} {o : Result (Option ℕ × ℕ) Fault} (b : Finds img H.Node sought 0 o)
    {mb : Result (Option ℕ × ℕ) Stop} (ib : mb ≡ stops_at None None None o) where
  in-store : {r : Result ℕ Fault} → Ends img (base then seq batches rest_of).read 0 r → Ends img store.read 0 r
  unfolding store
  in-store h = ends-made store_of h

  pub surveys-base : {s : Stop} {r : Result Survey Stop} → mb ≡ Err s → r ≡ Err s → SurveyOf img sought r
  surveys-base d e =
      let x = read-off None None None o ib d in
      let h = rw x.1 at b in
      stops sought e x.2 (record { ends = in-store (ends-stop _ h.ends refl refl); base = h.ends; batches = refl; live = refl })

  module _ {place : Option ℕ} {c1 : ℕ} (db : mb ≡ Ok (place, c1)) {u : Result (Batches × ℕ) Fault} (g : GathersQueue img sought c1 place u)
      {mg : Result (Batches × ℕ) Stop} (ig : mg ≡ stops_at (Some c1) None None u) where
    base-read : Finds img H.Node sought 0 (Ok (place, c1))
    base-read = rw (read-on None None None o ib db) at b

    after-base : {r : Result ℕ Fault} → Ends img (seq batches rest_of).read c1 r → Ends img store.read 0 r
    after-base k = in-store (ends-then (seq batches rest_of).read (λ a b. (a, b)) base-read.ends refl k)

    pub surveys-queue : {s : Stop} {r : Result Survey Stop} → mg ≡ Err s → r ≡ Err s → SurveyOf img sought r
    surveys-queue z e =
        let x = read-off (Some c1) None None u ig z in
        let h = rw x.1 at g in
        let q = ends-batches h.ends in
        stops sought e x.2 (record { ends = after-base (ends-stop _ q refl refl); base = base-read.ends; batches = q; live = refl })

    module _ {queue : Batches} {c2 : ℕ} (dg : mg ≡ Ok (queue, c2)) {v : Result (Option ℕ × ℕ) Fault} (l : Finds img H.Record sought c2 v)
        {ml : Result (Option ℕ × ℕ) Stop} (il : ml ≡ stops_at (Some c1) (Some c2) None v) where
      queue-read : GathersQueue img sought c1 place (Ok (queue, c2))
      queue-read = rw (read-on (Some c1) None None u ig dg) at g

      after-queue : {r : Result ℕ Fault} → Ends img (records then tail_after queue.last).read c2 r → Ends img store.read 0 r
      after-queue k = after-base (ends-queue queue-read.ends queue-read.gathered.last k)

      pub surveys-live : {s : Stop} {r : Result Survey Stop} → ml ≡ Err s → r ≡ Err s → SurveyOf img sought r
      surveys-live y e =
          let x = read-off (Some c1) (Some c2) None v il y in
          let h = rw x.1 at l in
          let q = ends-batches queue-read.ends in
          stops sought e x.2 (record { ends = after-queue (ends-stop _ h.ends refl refl); base = base-read.ends; batches = q; live = h.ends })

      module _ {top : Option ℕ} {c3 : ℕ} (dl : ml ≡ Ok (top, c3)) {w : Result ℕ Fault} (t : Ends img (tail_after queue.last).read c3 w)
          {mt : Result ℕ Stop} (it : mt ≡ stops_at (Some c1) (Some c2) (Some c3) w) where
        live-read : Finds img H.Record sought c2 (Ok (top, c3))
        live-read = rw (read-on (Some c1) (Some c2) None v il dl) at l

        after-live : {r : Result ℕ Fault} → w ≡ r → Ends img store.read 0 r
        after-live x = after-queue (ends-then (tail_after queue.last).read (λ a b. (a, b)) live-read.ends refl (rw x at t))

        pub surveys-tail : {s : Stop} {r : Result Survey Stop} → mt ≡ Err s → r ≡ Err s → SurveyOf img sought r
        surveys-tail z e =
            let x = read-off (Some c1) (Some c2) (Some c3) w it z in
            let q = ends-batches queue-read.ends in
            stops sought e x.2 (record { ends = after-live x.1; base = base-read.ends; batches = q; live = live-read.ends })

        pub surveys-all : {c4 : ℕ} {stack : InodeLayerStack} → mt ≡ Ok c4 → Pushed queue.stack top stack
            → Surveyed img sought (record { stack = stack; sections = record { batches = c1; live = c2; tail = c3 }; end = c4 })
        surveys-all z p =
            record {
              surveys = record {
                ends = after-live (read-on (Some c1) (Some c2) (Some c3) w it z);
                base = base-read.ends;
                batches = ends-batches queue-read.ends;
                live = live-read.ends;
                node = (p.base ∙ queue-read.gathered.base_kept) ∙ base-read.found;
                deltas = rw (p.places, queue-read.gathered.places, live-read.found);
              };
              few = omega (arith, p.few, queue-read.gathered.few);
              wide = p.wide;
            }

pub ruleset surveys = (surveys-base, surveys-queue, surveys-live, surveys-tail, surveys-all, handed)

-- ---- the verdict

module _ {img : List ℕ} (short : length img ≤ 65536) where
  is-fine : {q : ℕ} → Ends img store.read 0 (Ok q) → length img ≤ q → None ≡ verdict_of img
  unfolding verdict_of decode
  is-fine {q} w h =
      let g = ends-got w in
      let n : drop q img ≡ [] = drop_of_length-le img h in
      let r : store.read img ≡ got g.0 [] = g.1 ∙ ap (got g.0) n in
      rw (le-ltb 65536 (length img) short, r)

  is-longer : {q : ℕ} → Ends img store.read 0 (Ok q) → q < length img → Some ImageBroken ≡ verdict_of img
  unfolding verdict_of decode
  is-longer {q} w h =
      let g = ends-got w in
      let r : store.read img ≡ got g.0 (get_or img q 0 ∷ drop (suc q) img) = g.1 ∙ ap (got g.0) (drop-cons img q 0 h) in
      rw (le-ltb 65536 (length img) short, r)

  is-broken : {f : Fault} → Ends img store.read 0 (Err f) → Some ImageBroken ≡ verdict_of img
  unfolding verdict_of decode
  is-broken w =
      let r = ends-fault w in
      rw (le-ltb 65536 (length img) short, r)

  -- by the fault alone, whatever is known of the places before it
  pub judged-broken : {sought : ℕ} {f : Fault} {r : Result Survey Refusal} → Ends img store.read 0 (Err f) → r ≡ Err ImageBroken → Judges img sought r
  judged-broken w e = rw e (record { verdict = is-broken w; survey = tt })

  module _ {sought : ℕ} {o : Result Survey Stop} (h : SurveyOf img sought o) where
    pub judged-stopped : {s : Stop} {r : Result Survey Refusal} → o ≡ Err s → r ≡ Err ImageBroken → Judges img sought r
    judged-stopped d e = let g = rw d at h in judged-broken g.ends e

    module _ {s : Survey} (d : o ≡ Ok s) where
      pub judged-longer : s.end < length img → Judges img sought (Err ImageBroken)
      judged-longer l = let g = rw d at h in record { verdict = is-longer g.surveys.ends l; survey = tt }

      pub judged-fine : length img ≤ s.end → Judges img sought (Ok s)
      judged-fine l = let g = rw d at h in record { verdict = is-fine g.surveys.ends l; survey = g }

pub judged-long : {img : List ℕ} {sought : ℕ} → 65536 < length img → Judges img sought (Err ImageTooLong)
unfolding verdict_of
judged-long {img} h = record { verdict = rw (lt-ltb 65536 (length img) h); survey = tt }
