-- What a listing answers, by the attributes and the rows that a stack shows.
-- Assumes nothing.
use Rattle.std.specs.Prelude.{Result, Ok, Err, None, Option, Some}
use mathlib.Core.Path.{◌≡◌, refl, sym, ◌∙◌}
use mathlib.Core.Bool.{Bool, true, false, cond}
use mathlib.Core.List.{List, [], ◌∷◌}
use Prim.Native.Nat.{ℕ, ◌≤◌}
use lib.Dec.{ltb}
use lib.ListN.{length, drop, length-map}
use lib.Seq.{take-append_seam}
use Rattle.wire.specs.Parse.{got}
use Rattle.wire.specs.Orders.{by_number}
use Rattle.wire.specs.Maps.{get}
use Rattle.image.specs.Meaning.{Kind, Entries, Attributes, Store, directory, file, symlink, special}
use Rattle.rules.specs.Initial.{usual}
use Rattle.image.specs.RoundTrip.{read_image}
use Rattle.survey.specs.Verdict.{number_of}
use Rattle.survey.specs.declared.refusal.Refusal.{Refusal}
use Rattle.wire.proofs.Readers.{handed}
use Rattle.rules.specs.Answers.{Answer, refused, answer, first_of, unless}
use Rattle.rules.specs.Changes.{map_if}
use Rattle.rules.specs.FileAttrs.{FileAttr, attributes}
use Rattle.rules.specs.Asks.{rows_of, name_rows, names_of, few_rows, reply}
use Rattle.rules.specs.Stacks.{stack, layers}
use Rattle.rules.specs.Reads.{look, entries, values}
use Rattle.rules.specs.Views.{if_directory, listed, valued, view_at}
use Rattle.rules.specs.ReadCalls.{Row, map_answer, entry_rows, attribute_rows}
use Rattle.rules.proofs.PlacedStack.{placed-stack, placed-node}
use Rattle.rules.proofs.Asked.{over-fine, entry-count, attribute-count}
use Rattle.stack.specs.InStack.{StackOf, Opens, shown_in}
use Rattle.stack.specs.declared.stack.Stack.{Stack}
use Rattle.rows.specs.Listings.{rows_in}
use Rattle.rules.specs.Queue.{is_directory}
use Rattle.rows.specs.Plans.{entry_of, is_listed, list_call, room_for, plan_rows, plan_entries, PlansRows, Plans, Fills, Filled}
use Rattle.rows.specs.declared.listing.Entry.{Entry}
use Rattle.rows.specs.declared.plan.Plan.{Plan}
use Rattle.gather.specs.declared.gather.Listing.{Listing}
use Rattle.gather.specs.declared.gather.Listing.TheVariants as L
use Rattle.stack.proofs.Opening.{opened-refused, opened-store}

-- ---- rows in place of names

module _ (lent : ℕ) (rows : List Row) where
  given : {A : Type 0} (l : List A) (n : ℕ) → length rows ≡ n
      → map_answer (map_if (λ l. rows)) (unless (first_of ((5, ltb lent n) ∷ [])) (Some l)) ≡ room_for lent rows
  given l n e = rw e (go (ltb lent n))
    where
      go : (b : Bool) → map_answer (map_if (λ l. rows)) (unless (first_of ((5, b) ∷ [])) (Some l)) ≡ cond b (refused 5) (answer (Some rows))
      go true = refl
      go false = refl

  entries-given : (a : Option FileAttr) (es : Entries) → length rows ≡ length es.rows
      → map_answer (map_if (λ l. rows)) (unless (first_of ((5, few_rows lent (listed a es)) ∷ [])) (rows_of (listed a es)))
      ≡ cond (is_listed L.Entries a) (room_for lent rows) (answer None)
  entries-given None es e = refl
  entries-given (Some a) es e = go a.type
    where
      go : (k : Kind) → map_answer (map_if (λ l. rows)) (unless (first_of ((5, few_rows lent (if_directory k es)) ∷ [])) (rows_of (if_directory k es)))
          ≡ cond (is_directory k) (room_for lent rows) (answer None)
      go directory = given es.rows (length es.rows) e
      go file = refl
      go symlink = refl
      go (special s) = refl

  names-given : (a : Option FileAttr) (vs : Attributes) → length rows ≡ length vs.rows
      → map_answer (map_if (λ l. rows)) (unless (first_of ((5, few_rows lent (valued a vs)) ∷ [])) (names_of (valued a vs)))
      ≡ cond (is_listed L.Attributes a) (room_for lent rows) (answer None)
  names-given None vs e = refl
  names-given (Some a) vs e = given (name_rows vs.rows) (length vs.rows) e

-- ---- the calls

fine-listing : {img : List ℕ} {i : ℕ} {s : Stack} (room : ℕ) → StackOf img i s → {st : Store} → length img ≤ 65536 → read_image img ≡ got st [] → (l : Listing)
    → list_call l img i room ≡ cond (is_listed l (shown_in (attributes usual i) s)) (room_for room (rows_in l s)) (answer None)
unfolding reply entry_rows attribute_rows
fine-listing {img} {i} room k {st} few g L.Entries =
    rw (k.image_is, k.records_are, k.node_is, placed-stack img i g, placed-node img i g)
    (over-fine _ img few g
    ∙ entries-given room (entry_rows img i) (view_at usual st i).attributes (look entries (stack i (layers st)) (get by_number i st.base))
    (entry-count img i g))
fine-listing {img} {i} room k {st} few g L.Attributes =
    rw (k.image_is, k.records_are, k.node_is, placed-stack img i g, placed-node img i g)
    (over-fine _ img few g
    ∙ names-given room (attribute_rows img i) (view_at usual st i).attributes (look values (stack i (layers st)) (get by_number i st.base))
    (attribute-count img i g))

module _ {img : List ℕ} {i : ℕ} {o : Result Stack Refusal} (h : Opens img i o) (room : ℕ) where
  refused-listing : (l : Listing) {f : Refusal} → o ≡ Err f → list_call l img i room ≡ refused (number_of f)
  refused-listing L.Entries d = opened-refused h _ d
  refused-listing L.Attributes d = opened-refused h _ d

  -- "1, 2"
  pub listing-refused : (l : Listing) {f : Refusal} {r : Result (Option Plan) Refusal} → o ≡ Err f → r ≡ Err f → Plans (list_call l img i room) room r
  listing-refused l d e = rw e (record { answers = sym (refused-listing l d); fits = tt })

  module _ {s : Stack} (d : o ≡ Ok s) (l : Listing) {a : Option FileAttr} (e : a ≡ shown_in (attributes usual i) s) where
    call-is : list_call l img i room ≡ cond (is_listed l a) (room_for room (rows_in l s)) (answer None)
    call-is = let v = opened-store h d in let g = rw d at h in rw e (fine-listing room g.stack v.2 v.1 l)

    -- then none
    pub listing_none : is_listed l a ≡ false → Plans (list_call l img i room) room (Ok None)
    listing_none f = record { answers = rw (call-is, f); fits = tt }

    -- last 5, or the rows
    module _ (t : is_listed l a ≡ true) {w : Result Plan Refusal} (p : PlansRows (rows_in l s) room w) where
      pub listing-few : {f : Refusal} {r : Result (Option Plan) Refusal} → w ≡ Err f → r ≡ Err f → Plans (list_call l img i room) room r
      listing-few x y = let g = rw x at p in rw y (record { answers = rw (call-is, t) g.answers; fits = tt })

      pub listing-rows : {q : Plan} → w ≡ Ok q → Plans (list_call l img i room) room (Ok (Some q))
      listing-rows {q} x = let g = rw x at p in record { answers = rw (call-is, t) g.answers; fits = g.fits }

-- ---- the rows lent

module _ {a : Answer (Option (List Row))} {room : ℕ} {o : Result (Option Plan) Refusal} (h : Plans a room o) {old : List Entry} where
  pub filled-refused : {f : Refusal} {r : Result (Option ℕ) Refusal} → o ≡ Err f → r ≡ Err f → Filled a old old r
  filled-refused d e = let g = rw d at h in rw (e, ← g.answers) (record { answers = refl; count = refl; rows = refl })

  pub filled_none : o ≡ Ok None → Filled a old old (Ok None)
  filled_none d = let g = rw d at h in rw (← g.answers) (record { answers = refl; count = refl; rows = refl })

  pub filled-all : {p : Plan} {n : ℕ} {new : List Entry} → o ≡ Ok (Some p) → Fills (plan_entries p) old n new → Filled a old new (Ok (Some n))
  filled-all {p} {n} {new} d f =
      let g = rw d at h in
      let es = plan_entries p in
      rw (← g.answers)
      (record {
        answers = rw (f.many, f.rows, take-append_seam es (drop (length es) old));
        count = f.many ∙ length-map (plan_rows p) entry_of;
        rows = f.rows;
      })

pub ruleset fills = (filled-refused, filled_none, filled-all, handed)
