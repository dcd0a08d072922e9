-- What a changing call answers, where it is not refused: the image of the new store, which the target has room for.
use Rattle.std.specs.Prelude.{None, Option, Some}
use Rattle.std.proofs.lemmas.Bool.{and_parts}
use mathlib.Core.Path.{◌≡◌, refl, sym, ap, ◌∙◌}
use mathlib.Core.List.{List, []}
use mathlib.Core.Bool.{Bool, true, false, cond}
use Prim.Native.Nat.{ℕ, ◌≤◌}
use native.Mathlib.Omega.{arith}
use lib.Dec.{leb, ltb}
use lib.ListN.{length, take, drop, length-append, length-drop}
use lib.Seq.{take-append_seam}
use borrow.Author.Tests.{leb-true}
use Rattle.wire.specs.Parse.{Parsed, fault, got}
use Rattle.image.specs.Meaning.{Store}
use Rattle.image.specs.RoundTrip.{read_image, write_image}
use Rattle.image.proofs.RoundTrip.{read_fits}
use Rattle.rules.specs.Initial.{Initial}
use Rattle.rules.specs.Answers.{Answer, refused, answer, unless}
use Rattle.rules.specs.Calls.{Call}
use Rattle.rules.specs.Arguments.{FitsCall, FitsInitial}
use Rattle.rules.specs.Queue.{snapshot}
use Rattle.rules.specs.Refusals.{refusal}
use Rattle.rules.specs.Outcomes.{result, change, if_room}
use Rattle.rules.specs.Room.{InRoom, has_room}
use Rattle.rules.specs.ReadCalls.{of_store, over_image, map_answer}
use Rattle.rules.specs.ChangeCalls.{new_image, written, length_of, by_rules, snapshot_all}
use Rattle.rules.proofs.ResultImage.{result-image, snapshot-image}

-- a refusal is no answer
not-both : {A B : Type 0} {n : ℕ} {a : A} → ◌≡◌ {A = Answer A} (refused n) (answer a) → B
not-both e = cc

-- the store that the image holds, and the image of its new store
pub record Makes (f : Store → Answer Store) (img : List ℕ) (target : ℕ) (new : List ℕ) : Type 0 where
  pub old : Store
  pub rest : List ℕ
  pub holds : read_image img ≡ got old rest
  pub store : Store
  pub given : f old ≡ answer store
  pub image : new ≡ write_image store
  pub room : InRoom store
  pub in_target : length (write_image store) ≤ target

module _ (f : Store → Answer Store) (img : List ℕ) (target : ℕ) where
  pub answer-makes : (new : List ℕ) → new_image f img target ≡ answer new → Makes f img target new
  unfolding new_image over_image
  answer-makes new = long (ltb 65536 (length img)) (read_image img) refl
    where
      fits : (s u : Store) (r : List ℕ) → read_image img ≡ got s r → f s ≡ answer u → (b : Bool) → has_room target u ≡ b
          → map_answer write_image (cond b (answer u) (refused 5)) ≡ answer new → Makes f img target new
      fits s u r e g true h d =
          let l = and_parts (leb (length (write_image u)) 65536) (leb (length (write_image u)) target) h in
          record { old = s; rest = r; holds = e; store = u; given = g; image = cc; room = leb-true (length (write_image u)) 65536 l.0; in_target = leb-true (length (write_image u)) target l.1 }
      fits s u r e g false h d = not-both d

      own : (s : Store) (r : List ℕ) → read_image img ≡ got s r → (a : Answer Store) → f s ≡ a → map_answer write_image (if_room (has_room target) a) ≡ answer new → Makes f img target new
      own s r e (refused n) g d = not-both d
      own s r e (answer u) g d = fits s u r e g (has_room target u) refl d

      long : (b : Bool) (o : Parsed Store) → read_image img ≡ o → cond b (refused 1) (of_store (λ s. map_answer write_image (if_room (has_room target) (f s))) o) ≡ answer new
          → Makes f img target new
      long true o e d = not-both d
      long false (fault y) e d = not-both d
      long false (got s r) e d = own s r e (f s) refl d

-- ---- the target at exit

-- it is as long as at entry
pub target-length : (f : Store → Answer Store) (img old : List ℕ) → length (written (new_image f img (length old)) old) ≡ length old
target-length f img old = go (new_image f img (length old)) refl
  where
    go : (a : Answer (List ℕ)) → new_image f img (length old) ≡ a → length (written a old) ≡ length old
    go (refused n) e = refl
    go (answer new) e =
        let m = answer-makes f img (length old) new e in
        let l : length new ≤ length old = rw m.image m.in_target in
        rw (length-append new (drop (length new) old), length-drop (length new) old) (omega (arith, l))

-- and where the call is accepted, its front of the length answered is the new image
pub target-front : (a : Answer (List ℕ)) (new old : List ℕ) → a ≡ answer new → take (length_of a) (written a old) ≡ new
target-front a new old e = rw e (take-append_seam new (drop (length new) old))

-- ---- the new image

module _ (initial : Initial) (ok : FitsInitial initial) where
  -- where a call is accepted, the new image holds the result that the rules give of the store which the image holds
  pub answer-holds : (c : Call) (img : List ℕ) (target : ℕ) (s : Store) (new : List ℕ) → FitsCall c → read_image img ≡ got s [] → by_rules initial c img target ≡ answer new
      → read_image new ≡ got (result initial c s) []
  unfolding change
  answer-holds c img target s new h e d =
      let m = answer-makes (change initial c) img target new d in
      let same : m.old ≡ s = (let f = sym m.holds ∙ e in cc) in
      go (refusal c s) refl m (rw same at m.given)
    where
      go : (r : Option ℕ) → refusal c s ≡ r → (m : Makes (change initial c) img target new) → unless r (result initial c s) ≡ answer m.store
          → read_image new ≡ got (result initial c s) []
      go (Some n) k m g = not-both g
      go None k m g =
          let u : m.store ≡ result initial c s = cc in
          rw (m.image, u) (result-image initial ok c s (read_fits img s e) h k (rw u at m.room))

  -- the same of a snapshot
  pub snapshot-holds : (img : List ℕ) (target : ℕ) (s : Store) (new : List ℕ) → read_image img ≡ got s [] → snapshot_all initial img target ≡ answer new
      → read_image new ≡ got (snapshot initial s) []
  snapshot-holds img target s new e d =
      let m = answer-makes (λ s. answer (snapshot initial s)) img target new d in
      let same : m.old ≡ s = (let f = sym m.holds ∙ e in cc) in
      let u : m.store ≡ snapshot initial s = (let g = rw same at m.given in cc) in
      ap read_image (m.image ∙ ap write_image u) ∙ snapshot-image initial ok s (read_fits img s e) (rw u at m.room)
