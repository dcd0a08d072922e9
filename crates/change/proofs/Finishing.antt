-- How a change ends: it was refused, or its new image was measured, and then had no room or was written.
-- Assumes nothing.
use Rattle.std.specs.Prelude.{None, Some, Result, Ok, Err, IsErr, IsErrAnd}
use Rattle.std.specs.Result.{result_err}
use Rattle.wire.proofs.Readers.{handed}
use mathlib.Core.Path.{◌≡◌, refl, sym, ap, ◌∙◌}
use mathlib.Core.Bool.{Bool, true, false, ◌||◌, ◌&&◌, cond}
use mathlib.Core.List.{List}
use Prim.Native.Nat.{ℕ, ◌+◌, ◌≤◌, min}
use native.Mathlib.Omega.{arith}
use lib.Dec.{leb, ltb}
use lib.ListN.{length}
use borrow.Author.Tests.{le-leb, lt-leb, ltb-true, ltb-false}
use Rattle.wire.specs.Number.{edge}
use Rattle.wire.specs.Put.{Put}
use Rattle.wire.proofs.Puts.{put_whole}
use Rattle.image.specs.Meaning.{Store}
use Rattle.survey.specs.Verdict.{number_of, verdict_of}
use Rattle.survey.specs.declared.refusal.Refusal.{Refusal}
use Rattle.survey.specs.declared.refusal.Refusal.TheVariants as D
use Rattle.image.specs.RoundTrip.{write_image}
use Rattle.rules.specs.Initial.{usual}
use Rattle.rules.specs.Answers.{Answer, refused, answer}
use Rattle.rules.specs.Calls.{Call}
use Rattle.rules.specs.Refusals.{refusal}
use Rattle.rules.specs.Outcomes.{result, change, if_room}
use Rattle.rules.specs.Room.{has_room}
use Rattle.rules.specs.ReadCalls.{map_answer}
use Rattle.rules.specs.ChangeCalls.{new_image, by_rules}
use Rattle.rules.proofs.Asked.{over-fine, verdict-refused}
use Rattle.change.specs.Changed.{Changes, if_fits, lacks_room}
use Rattle.change.specs.Sections.{Stands}
use Rattle.survey.specs.declared.store.Sections.{Sections}

pub not-false : ◌≡◌ {A = Bool} true false → ⊥
not-false e = let z : ◌≡◌ {A = ℕ} 0 1 = cc in omega arith

refused-same : {def : Answer (List ℕ)} {old : List ℕ} {e : Refusal} → def ≡ refused (number_of e) → Changes def old (Err e) old
refused-same e = record { answers = rw e; leaves = rw e }

-- ---- 1 and 2

-- what `?` hands on of an image that may not be used
pub changes-unopened : (c : Call) {A : Type 0} (img : List ℕ) {old : List ℕ} {o : Result A Refusal} {e : Refusal} {r : Result ℕ Refusal}
    → result_err o ≡ verdict_of img → o ≡ Err e → IsErr r × IsErrAnd r (λ y. y ≡ e) → Changes (by_rules usual c img (length old)) old r old
unfolding new_image
changes-unopened c img {e = e} v d z = rw (handed z) (refused-same (verdict-refused _ img e (sym v ∙ ap result_err d)))

-- ---- room

-- the test of 5, by the size that was measured
room-less : (n size room : ℕ) → size ≡ min (0 + n) edge → lacks_room size room ≡ true → (leb n 65536 && leb n room) ≡ false
room-less n size room e h = go (ltb 65536 size) refl (ltb room size) refl h
  where
    both : (b : Bool) → (b && false) ≡ false
    both true = refl
    both false = refl

    go : (x : Bool) → ltb 65536 size ≡ x → (y : Bool) → ltb room size ≡ y → (x || y) ≡ true → (leb n 65536 && leb n room) ≡ false
    go true d y f h = rw (lt-leb n 65536 (omega (arith, ltb-true 65536 size d)))
    go false d true f h = rw (lt-leb n room (omega (arith, ltb-true room size f))) (both (leb n 65536))
    go false d false f h = absurd (let z : ◌≡◌ {A = ℕ} 0 1 = cc in omega arith)

module _ (n size room : ℕ) (e : size ≡ min (0 + n) edge) (h : lacks_room size room ≡ false) where
  in-room : (size ≤ 65536) × (size ≤ room)
  in-room = go (ltb 65536 size) refl (ltb room size) refl h
    where
      go : (x : Bool) → ltb 65536 size ≡ x → (y : Bool) → ltb room size ≡ y → (x || y) ≡ false → (size ≤ 65536) × (size ≤ room)
      go true d y f h = absurd (let z : ◌≡◌ {A = ℕ} 0 1 = cc in omega arith)
      go false d true f h = absurd (let z : ◌≡◌ {A = ℕ} 0 1 = cc in omega arith)
      go false d false f h = (ltb-false 65536 size d, ltb-false room size f)

  room-more : (leb n 65536 && leb n room) ≡ true
  room-more = rw (le-leb n 65536 (omega (arith, in-room)), le-leb n room (omega (arith, in-room)))

-- measured, and too long; or measured, and written
module _ {bytes l m : List ℕ} {size : ℕ} (put : Put l 0 bytes size m) where
  pub finish-roomless : {old : List ℕ} → lacks_room size (length old) ≡ true → Changes (if_fits bytes (length old)) old (Err D.NoRoom) old
  finish-roomless {old} h = refused-same (rw (room-less (length bytes) size (length old) put.to h))

  pub finish-written : {q : ℕ} {old new : List ℕ} → lacks_room size (length old) ≡ false → Put old 0 bytes q new
      → Changes (if_fits bytes (length old)) old (Ok q) new
  finish-written {q} {old} {new} h k =
      let d = room-more (length bytes) size (length old) put.to h in
      let i = in-room (length bytes) size (length old) put.to h in
      let y : q ≡ length bytes = omega (arith, k.to, put.to) in
      record { answers = rw (d, y); leaves = rw d (put_whole k (omega (arith, put.to)) ∙ rw y) }

-- ---- of the store that the image holds

module _ (c : Call) {img : List ℕ} {p : Sections} {s : Store} (w : Stands img p s) where
  def_is : (room : ℕ) → by_rules usual c img room ≡ map_answer write_image (if_room (has_room room) (change usual c s))
  unfolding new_image
  def_is room = over-fine _ img w.short w.is

  pub changes-refused : {old : List ℕ} {e : Refusal} → refusal c s ≡ Some (number_of e) → Changes (by_rules usual c img (length old)) old (Err e) old
  unfolding change
  changes-refused {old} e = refused-same (def_is (length old) ∙ rw e)

  -- the new image, if there is room
  def-fits : (room : ℕ) → refusal c s ≡ None → by_rules usual c img room ≡ if_fits (write_image (result usual c s)) room
  unfolding change
  def-fits room e = def_is room ∙ rw e (go (has_room room (result usual c s)))
    where
      go : (b : Bool) → map_answer write_image (cond b (answer (result usual c s)) (refused 5)) ≡ cond b (answer (write_image (result usual c s))) (refused 5)
      go true = refl
      go false = refl

  pub changes-made : {bytes old new : List ℕ} {r : Result ℕ Refusal} → refusal c s ≡ None → bytes ≡ write_image (result usual c s)
      → Changes (if_fits bytes (length old)) old r new → Changes (by_rules usual c img (length old)) old r new
  changes-made {old = old} e d h = rw (def-fits (length old) e, ← d) h
