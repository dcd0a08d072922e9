-- An image is put record by record: what comes before one that changes, that one, and then the rest.
-- Assumes nothing.
use mathlib.Core.Path.{◌≡◌}
use mathlib.Core.List.{List, ◌∷◌, ◌++◌, append_assoc}
use Prim.Native.Nat.{ℕ, ◌+◌, ◌≤◌, ◌<◌}
use lib.ListN.{length, drop, get_or}
use Rattle.std.proofs.lemmas.List.{drop_more, drop_all}
use Rattle.wire.specs.Put.{Put}
use Rattle.wire.proofs.Puts.{put-append}
use Rattle.change.specs.Sections.{between}
use Rattle.change.specs.Splices.{spliced}
use Rattle.overlay.specs.NewRecords.{edit_bytes, edited_image, Puts}
use Rattle.overlay.specs.declared.list.Copied.{Copied}
use Rattle.overlay.specs.declared.record.Edit.{Edit}
use Rattle.overlay.specs.declared.record.Lead.{Lead}
use Rattle.overlay.specs.declared.record.Lead.TheVariants as D

module _ (img given newName : List ℕ) where
  edit-more : (lead : Lead) (e : Edit) (es : List Edit)
      → edit_bytes img given newName lead e ++ edited_image img given newName (D.Behind e.gap.end) es ≡ edited_image img given newName lead (e ∷ es)
  unfolding spliced
  edit-more (D.Head h) e es = simp append_assoc
  edit-more (D.Behind first) e es = simp append_assoc

module _ (c : Copied) where
  pub put-more : (lead : Lead) (e : Edit) (es : List Edit) {old mid new : List ℕ} {at next end : ℕ}
      → Put old at (edit_bytes c.img.now c.given.now c.new_name.now lead e) next mid
      → Puts mid next c (D.Behind e.gap.end) es end new → Puts old at c lead (e ∷ es) end new
  put-more lead e es h k = rw (edit-more c.img.now c.given.now c.new_name.now lead e es) at (put-append h k)

-- Records are put up to `next`: who puts the others from the i-th on, behind `after`, has put them all.
pub record Putting (c : Copied) (old : List ℕ) (at : ℕ) (lead : Lead) (all : List Edit) (buf : List ℕ) (next after : ℕ) (others : List Edit)
    (i : ℕ) : Type 0 where
  then : (end : ℕ) (new : List ℕ) → Puts buf next c (D.Behind after) (drop i others) end new → Puts old at c lead all end new

module _ {c : Copied} {old : List ℕ} {at : ℕ} {lead : Lead} where
  pub putting-start : {e : Edit} {es : List Edit} {buf : List ℕ} {next : ℕ} → Put old at (edit_bytes c.img.now c.given.now c.new_name.now lead e) next buf
      → Putting c old at lead (e ∷ es) buf next e.gap.end es 0
  putting-start {e} {es} h = record { then = λ end new k. put-more c lead e es h k }

  module _ {all others : List Edit} {i : ℕ} {buf : List ℕ} {next after : ℕ} (w : Putting c old at lead all buf next after others i) where
    pub putting-more : (d : Edit) {mid : List ℕ} {to : ℕ} → i < length others
        → Put buf next (edit_bytes c.img.now c.given.now c.new_name.now (D.Behind after) (get_or others i d)) to mid
        → Putting c old at lead all mid to (get_or others i d).gap.end others (i + 1)
    putting-more d l h = record {
      then = λ end new k. w.then end new (rw (drop_more others i d l) (put-more c (D.Behind after) (get_or others i d) (drop (i + 1) others) h k));
    }

    pub putting-all : {end : ℕ} {new : List ℕ} → length others ≤ i → Put buf next (between c.img.now after (length c.img.now)) end new
        → Puts old at c lead all end new
    unfolding spliced
    putting-all {end} {new} l h = w.then end new (rw (drop_all i others l) h)
