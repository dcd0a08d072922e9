-- One store of each of the six sorts: ours, but for what is wrong with it. None of them meets demand 3 on bytes.
use Rattle.std.specs.Prelude.{None, Option, Some}
use mathlib.Core.Path.{◌≡◌, refl, sym, ap, ◌∙◌}
use mathlib.Core.List.{List, [], ◌∷◌}
use mathlib.Core.Bool.{Bool, true, false, cond}
use Prim.Native.Nat.{ℕ, ◌+◌}
use native.Mathlib.Omega.{arith}
use lib.Dec.{ltb}
use borrow.Author.Tests.{lt-ltb}
use Rattle.wire.specs.declared.time.Time.{Time}
use Rattle.wire.specs.Parse.{Parsed, fault, got}
use Rattle.image.specs.Meaning.{Text, Store}
use Rattle.image.specs.Fits.{FitsStore}
use Rattle.image.specs.StoreLayout.{store}
use Rattle.image.specs.RoundTrip.{read_image, write_image}
use Rattle.image.proofs.RoundTrip.{one-image}
use Rattle.rules.specs.Initial.{usual}
use Rattle.rules.specs.Answers.{Answer, refused, answer, unless}
use Rattle.rules.specs.Asks.{Ask, Reply}
use Rattle.rules.specs.Calls.{Call}
use Rattle.rules.specs.Queue.{set_batches, noted}
use Rattle.rules.specs.Refusals.{other_id, refusal}
use Rattle.rules.specs.Outcomes.{result}
use Rattle.rules.specs.ReadCalls.{asked}
use Rattle.rules.specs.ChangeCalls.{new_image}
use Rattle.rules.specs.Behaviour.{CodeCall, Behaviour, Meets-3, changed}
use Rattle.rules.specs.WrongStores.{FoldsFirstOnly, PopsLater, InventsCounts}
use Rattle.rules.proofs.ResultImage.{usual-fits}
use Rattle.rules.proofs.Written.{answer-makes, answer-holds}
use Rattle.rules.proofs.SixStores.{not-changes-away, not_none, not-copied, not-first-only, not_popped, not-invented, not-target, not-rows, not-limits}
use Rattle.wire.proofs.Decoding.{encode-decode}
use Rattle.image.proofs.OneForm.{store-one}

-- ---- ours, but for some calls and reads

-- the calls of the queue, in which some differ
pub record QueueCalls : Type 0 where
  pub freeze : ℕ → ℕ → ℕ → Time → List ℕ → ℕ → Answer (List ℕ)
  pub fold : List ℕ → ℕ → Answer (List ℕ)
  pub pop : ℕ → List ℕ → ℕ → Answer (List ℕ)
  pub note : ℕ → List ℕ → ℕ → Answer (List ℕ)

abbrev our_queue : QueueCalls
our_queue = record {
  freeze = λ depth bytes operations now. changed usual (CodeCall.freeze_live depth bytes operations now);
  fold = changed usual CodeCall.fold_entries;
  pop = λ id. changed usual (CodeCall.pop_flushed_batch id);
  note = λ n. changed usual (CodeCall.record_mutation n);
}

abbrev with_queue : QueueCalls → CodeCall → List ℕ → ℕ → Answer (List ℕ)
with_queue Q (CodeCall.insert_new_node i delta) = changed usual (CodeCall.insert_new_node i delta)
with_queue Q (CodeCall.tombstone i) = changed usual (CodeCall.tombstone i)
with_queue Q (CodeCall.add_dir_entry i name inode now) = changed usual (CodeCall.add_dir_entry i name inode now)
with_queue Q (CodeCall.remove_dir_entry i name now) = changed usual (CodeCall.remove_dir_entry i name now)
with_queue Q (CodeCall.update_dir_parent i parent) = changed usual (CodeCall.update_dir_parent i parent)
with_queue Q (CodeCall.update_attr_delta i delta) = changed usual (CodeCall.update_attr_delta i delta)
with_queue Q (CodeCall.normalize_directory_deltas position) = changed usual (CodeCall.normalize_directory_deltas position)
with_queue Q (CodeCall.freeze_live depth bytes operations now) = Q.freeze depth bytes operations now
with_queue Q CodeCall.fold_entries = Q.fold
with_queue Q (CodeCall.pop_flushed_batch id) = Q.pop id
with_queue Q (CodeCall.record_mutation n) = Q.note n
with_queue Q (CodeCall.request_freeze reason) = changed usual (CodeCall.request_freeze reason)

abbrev queue_of : QueueCalls → Behaviour
queue_of Q = record { change = with_queue Q; read = asked usual }

abbrev with_reads : (ℕ → Text → List ℕ → Answer (Option ℕ)) → (ℕ → ℕ → List ℕ → Answer (Option (List (Text × ℕ)))) → (q : Ask) → List ℕ → Answer (Reply q)
with_reads child listing (Ask.exists i) = asked usual (Ask.exists i)
with_reads child listing (Ask.type i) = asked usual (Ask.type i)
with_reads child listing (Ask.attributes i) = asked usual (Ask.attributes i)
with_reads child listing (Ask.link_text i) = asked usual (Ask.link_text i)
with_reads child listing (Ask.parent i) = asked usual (Ask.parent i)
with_reads child listing (Ask.child i name) = child i name
with_reads child listing (Ask.attribute i name) = asked usual (Ask.attribute i name)
with_reads child listing (Ask.listing i lent) = listing i lent
with_reads child listing (Ask.names i lent) = asked usual (Ask.names i lent)

-- ---- the stores

-- every call and every read is refused
abbrev pub turned_away : Behaviour
turned_away = record { change = λ c img target. refused 2; read = λ q img. refused 2 }

-- every lookup finds none
abbrev pub none_found : Behaviour
none_found = record { change = changed usual; read = with_reads (λ i name img. answer None) (λ i lent. asked usual (Ask.listing i lent)) }

-- every call answers its image
abbrev pub copied_through : Behaviour
copied_through = record { change = λ c img target. answer img; read = asked usual }

-- of a front batch other than the first, fold leaves the image
abbrev not_first : Parsed Store → Bool
not_first (fault f) = false
not_first (got s r) = other_id 1 s.batches

abbrev pub first_only : Behaviour
first_only = queue_of (record {
  freeze = our_queue.freeze;
  fold = λ img target. cond (not_first (read_image img)) (answer img) (our_queue.fold img target);
  pop = our_queue.pop;
  note = our_queue.note;
})

-- pop empties the queue
abbrev all_popped : ℕ → Store → Answer Store
all_popped id s = unless (refusal (Call.pop id) s) (set_batches [] s)

abbrev pub later_popped : Behaviour
later_popped = queue_of (record { freeze = our_queue.freeze; fold = our_queue.fold; pop = λ id. new_image (all_popped id); note = our_queue.note })

-- each note counts one byte too many
abbrev pub invented_counts : Behaviour
invented_counts = queue_of (record { freeze = our_queue.freeze; fold = our_queue.fold; pop = our_queue.pop; note = λ n. our_queue.note (n + 1) })

-- 5 to all but the largest target
abbrev pub target_untried : Behaviour
target_untried = record { change = λ c img target. cond (ltb target 65536) (refused 5) (changed usual c img target); read = asked usual }

-- 5 to every listing
abbrev pub rows_untried : Behaviour
rows_untried = record { change = changed usual; read = with_reads (λ i name. asked usual (Ask.child i name)) (λ i lent img. refused 5) }

-- 6 to every freeze
abbrev pub limits_untried : Behaviour
limits_untried = queue_of (record { freeze = λ depth bytes operations now img target. refused 6; fold = our_queue.fold; pop = our_queue.pop; note = our_queue.note })

-- ---- they are of these sorts

-- two stores that an image holds are one
same_store : (img : List ℕ) {s t : Store} → read_image img ≡ got s [] → read_image img ≡ got t [] → t ≡ s
same_store img e f = let g = sym e ∙ f in cc

first-only : FoldsFirstOnly first_only
first-only img target new s t e w d f =
    let l : not_first (read_image img) ≡ true = rw e w in
    let c : new ≡ img = (let k = rw l at d in cc) in
    ap (λ (x : Store). x.base) (same_store img e (rw c at f))

invented : InventsCounts invented_counts
unfolding result
invented n img target new s t e d f b o =
    let i = answer-holds usual usual-fits (Call.note (n + 1)) img target s new tt e d in
    let k : t ≡ noted (n + 1) s = same_store new i f in
    let l : s.bytes + (n + 1) ≡ s.bytes + n = ap (λ (x : Store). x.bytes) (sym k) ∙ b in
    omega (arith, l)

popped-fits : (img : List ℕ) (s : Store) (r : List ℕ) → read_image img ≡ got s r → FitsStore (set_batches [] s)
unfolding store
popped-fits img s r e =
    let h = (encode-decode store store-one img s r e).1 in
    record { base = h.base; batches = record { count = omega arith; each = tt; rising = tt }; live = h.live; next = h.next; ids = tt; bytes = h.bytes; operations = h.operations; request = h.request }

later-popped : PopsLater later_popped
later-popped id img target new t d f =
    let m = answer-makes (all_popped id) img target new d in
    let u : m.store ≡ set_batches [] m.old = go (refusal (Call.pop id) m.old) m.old m.store m.given in
    let i : read_image new ≡ got (set_batches [] m.old) [] = ap read_image (m.image ∙ ap write_image u) ∙ (one-image (set_batches [] m.old) (popped-fits img m.old m.rest m.holds)).0 in
    ap (λ (x : Store). x.batches) (same_store new i f)
  where
    go : (r : Option ℕ) (s u : Store) → unless r (set_batches [] s) ≡ answer u → u ≡ set_batches [] s
    go None s u e = cc
    go (Some n) s u e = cc

-- ---- none meets demand 3

abbrev pub NoneMeets : List Behaviour → Type 0
NoneMeets [] = Unit {0}
NoneMeets (B ∷ Bs) = (Meets-3 B usual → ⊥) × NoneMeets Bs

pub none-meets : NoneMeets (turned_away ∷ none_found ∷ copied_through ∷ first_only ∷ later_popped ∷ invented_counts ∷ target_untried ∷ rows_untried ∷ limits_untried ∷ [])
none-meets = (
  λ m. not-changes-away turned_away m (λ c img target. refl),
  (
    λ m. not_none none_found m (λ i name img. refl),
    (
      λ m. not-copied copied_through m (λ c img target new e. cc),
      (
        λ m. not-first-only first_only m first-only,
        (
          λ m. not_popped later_popped m later-popped,
          (
            λ m. not-invented invented_counts m invented,
            (
              λ m. not-target target_untried m (λ i img target l. rw (lt-ltb target 65536 l) refl),
              (
                λ m. not-rows rows_untried m (λ i lent img. refl),
                (λ m. not-limits limits_untried m (λ depth bytes operations now img target. refl), tt),
              ),
            ),
          ),
        ),
      ),
    ),
  ),
)
