-- The target of a snapshot that is not refused begins with the snapshot's base.
-- Assumes nothing.
use Rattle.std.specs.Prelude.{Result, Ok, Err}
use Rattle.std.proofs.lemmas.Bool.{and_parts}
use mathlib.Core.Path.{◌≡◌, refl, sym, ap, ◌∙◌}
use mathlib.Core.Bool.{Bool, true, false, cond}
use mathlib.Core.List.{List, ◌++◌, append_assoc}
use Prim.Native.Nat.{ℕ, ◌≤◌}
use native.Mathlib.Omega.{arith}
use lib.Dec.{ltb}
use lib.ListN.{length, drop, length-append}
use lib.Seq.{drop-append_seam}
use borrow.Author.Tests.{leb-true}
use Rattle.wire.specs.Parse.{Parsed, fault, got}
use Rattle.image.specs.Meaning.{Store}
use Rattle.image.specs.Fits.{FitsStore}
use Rattle.image.specs.NodeLayout.{node, base}
use Rattle.image.specs.StoreLayout.{store}
use Rattle.image.specs.RoundTrip.{read_image, write_image}
use Rattle.rules.specs.Initial.{usual}
use Rattle.rules.specs.Answers.{Answer, refused, answer}
use Rattle.rules.specs.Queue.{snapshot}
use Rattle.rules.specs.Outcomes.{if_room}
use Rattle.rules.specs.Room.{has_room}
use Rattle.rules.specs.ReadCalls.{of_store, over_image, map_answer}
use Rattle.rules.specs.ChangeCalls.{new_image, written, snapshot_all}
use Rattle.rules.proofs.ResultImage.{snapshot-fits, usual-fits}
use Rattle.change.specs.Sections.{Spans}
use Rattle.change.specs.Changed.{answered, Changes}
use Rattle.survey.specs.Verdict.{number_of, numbered}
use Rattle.survey.specs.declared.refusal.Refusal.{Refusal}
use Rattle.change.proofs.Sections.{store_bytes}
use Rattle.lines.specs.Lines.{snapshot_of}
use Rattle.lines.specs.Rows.{OpensTo, OpensListing}
use Rattle.image.specs.declared.rows.Rows.{Rows}
use Rattle.wire.specs.Lists.{last_count}
use Rattle.image.specs.Rows.{RowsAt}
use Rattle.lines.proofs.Rowed.{rows-first}
use Rattle.wire.proofs.Decoding.{encode-decode}
use Rattle.image.proofs.OneForm.{store-one}

-- the snapshot's bytes are those of the snapshot
snapshot-bytes : (room : ℕ) (img : List ℕ) → snapshot_all usual img room ≡ map_answer write_image (snapshot_of room img)
unfolding new_image over_image
snapshot-bytes room img = go (ltb 65536 (length img)) (read_image img)
  where
    made : Store → Answer Store
    made s = if_room (has_room room) (answer (snapshot usual s))

    go : (b : Bool) (o : Parsed Store)
        → cond b (refused 1) (of_store (λ s. map_answer write_image (if_room (has_room room) (answer (snapshot usual s)))) o)
        ≡ map_answer write_image (cond b (refused 1) (of_store (λ s. if_room (has_room room) (answer (snapshot usual s))) o))
    go true o = refl
    go false (fault f) = refl
    go false (got s r) = refl

-- what is read fits
read_fits : (img : List ℕ) {s : Store} {r : List ℕ} → read_image img ≡ got s r → FitsStore s
unfolding store
read_fits img {s} {r} e = (encode-decode store store-one img s r e).1

-- a snapshot that is not refused fits an image
snapshot-is : (room : ℕ) (img : List ℕ) {s : Store} → snapshot_of room img ≡ answer s → FitsStore s
unfolding over_image
snapshot-is room img {s} = go (ltb 65536 (length img)) (read_image img) refl
  where
    sized : (t : Store) (b : Bool) → has_room room t ≡ b → cond b (answer t) (refused 5) ≡ answer s → (t ≡ s) × (length (write_image t) ≤ 65536)
    sized t true h e = (cc, leb-true (length (write_image t)) 65536 (and_parts _ _ h).0)
    sized t false h e = cc

    go : (b : Bool) (o : Parsed Store) → read_image img ≡ o
        → cond b (refused 1) (of_store (λ s. if_room (has_room room) (answer (snapshot usual s))) o) ≡ answer s → FitsStore s
    go true o d e = cc
    go false (fault f) d e = cc
    go false (got t r) d e =
        let g = sized (snapshot usual t) (has_room room (snapshot usual t)) refl e in
        rw (← g.0) (snapshot-fits usual usual-fits t (read_fits img d) g.1)

-- bytes at the start of others
span-start : (xs ys : List ℕ) → Spans (xs ++ ys) 0 xs (length xs)
span-start xs ys = record {
  is = ap (λ (t : List ℕ). xs ++ t) (sym (drop-append_seam xs ys));
  ends = omega arith;
  within = omega (arith, length-append xs ys);
}

base-starts : (s : Store) (rest : List ℕ) → Spans (write_image s ++ rest) 0 (base.write s.base) (length (base.write s.base))
base-starts s rest =
    rw (store_bytes, append_assoc (base.write s.base) _ rest) (span-start (base.write s.base) _)

fits-base : {s : Store} → FitsStore s → base.Fits s.base
unfolding node
fits-base h = h.base

module _ {img old new : List ℕ} {made : Result ℕ Refusal} (h : Changes (snapshot_all usual img (length old)) old made new) {r : Result Rows Refusal} where
  pub opened-refused : {e : Refusal} → made ≡ Err e → r ≡ Err e → OpensListing img old r new
  opened-refused {e} a d = record {
    opens = go (snapshot_of (length old) img) (sym (ap numbered a) ∙ h.answers ∙ ap answered (snapshot-bytes (length old) img));
    leaves = h.leaves;
  }
    where
      go : (o : Answer Store) → Err (number_of e) ≡ answered (map_answer write_image o) → OpensTo o r new
      go (refused m) x = ap numbered d ∙ let z : number_of e ≡ m = cc in ap Err z
      go (answer s) x = cc

  pub opened-lines : {n : ℕ} {rows : Rows} → made ≡ Ok n → RowsAt new last_count 0 rows → r ≡ Ok rows → OpensListing img old r new
  opened-lines {n} {rows} a f e =
      record { opens = go (snapshot_of (length old) img) refl; leaves = h.leaves }
    where
      go : (o : Answer Store) → snapshot_of (length old) img ≡ o → OpensTo o r new
      go (refused m) d =
          let z = sym (ap numbered a) ∙ h.answers ∙ ap answered (snapshot-bytes (length old) img ∙ ap (map_answer write_image) d) in
          absurd (let y : ◌≡◌ {A = ℕ} 0 1 = cc in omega arith)
      go (answer s) d =
          let w : new ≡ write_image s ++ drop (length (write_image s)) old =
          h.leaves ∙ ap (λ (o : Answer (List ℕ)). written o old) (snapshot-bytes (length old) img ∙ ap (map_answer write_image) d) in (
            rows,
            e,
            rows-first f s.base (length (base.write s.base)) (fits-base (snapshot-is (length old) img d))
                (rw w (base-starts s (drop (length (write_image s)) old))),
          )
