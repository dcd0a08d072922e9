-- One inode's stack: every read is the read of the folded node alone; folding the lowest record keeps all reads.
use Rattle.std.specs.Prelude.{Option}
use mathlib.Core.Path.{◌≡◌, refl, ◌∙◌, ap, fun_ext}
use mathlib.Core.List.{List, [], ◌∷◌}
use Prim.Native.Nat.{ℕ}
use Rattle.image.specs.Meaning.{Kind, Node, Record, tombstone, delta}
use Rattle.rules.specs.Initial.{Initial, Accepted}
use Rattle.rules.specs.Fold.{fold_record}
use Rattle.rules.specs.Reads.{Read, look, type, base_type, step_type, child, entries, link_text, parent, attribute, values}
use Rattle.rules.specs.FileAttrs.{attributes}
use Rattle.rules.specs.Views.{view}
use Rattle.rules.specs.Orderly.{Right, OrderlyStack}
use Rattle.rules.proofs.Laws.{Law, type-law, attr-law, entries-law, child-law, text-law, parent-law, attribute-law, values-law}

-- a stack whose lowest record is r
abbrev pub low : List Record → Record → List Record
low [] r = r ∷ []
low (q ∷ rs) r = q ∷ low rs r

-- any topmost record decides the type, whatever is below
top-decides : (r : Record) (x y : Option Kind) → step_type r x ≡ step_type r y
top-decides tombstone x y = refl
top-decides (delta d) x y = refl

type-low : (rs : List Record) (r : Record) (b c : Option Node) → look type (low rs r) b ≡ look type (low rs r) c
unfolding look
type-low [] r b c = top-decides r _ _
type-low (q ∷ rs) r b c = top-decides q _ _

pub low-right : (rs : List Record) (r : Record) (b : Option Node) → OrderlyStack (low rs r) b → Right r (base_type b)
unfolding look
low-right [] r b o = o.0
low-right (q ∷ rs) r b o = low-right rs r b o.1

module _ (initial : Initial) where
  -- all records of a stack folded in
  unfoldable pub folded : List Record → Option Node → Option Node
  folded [] b = b
  folded (r ∷ rs) b = fold_record initial r (folded rs b)

  pub type-folded : (rs : List Record) (b : Option Node) → OrderlyStack rs b → look type rs b ≡ base_type (folded rs b)
  unfolding look folded
  type-folded [] b o = refl
  type-folded (r ∷ rs) b o =
      let ih = type-folded rs b o.1 in
      rw ih (type-law initial r (folded rs b) (rw (← ih) o.0))

  -- what a record needs, said of the folded node beneath
  right-folded : (r : Record) (rs : List Record) (b : Option Node) → OrderlyStack rs b → Right r (look type rs b) → Right r (base_type (folded rs b))
  right-folded r rs b o h = rw (← (type-folded rs b o)) h

  -- a read of an orderly stack is a read of the folded node
  pub read-folded : {X : Type 0} (R : Read X) → Law initial R → (rs : List Record) (b : Option Node) → OrderlyStack rs b → look R rs b ≡ look R [] (folded rs b)
  unfolding look folded
  read-folded R law [] b o = refl
  read-folded R law (r ∷ rs) b o =
      ap (R.step r) (read-folded R law rs b o.1) ∙ (law r (folded rs b) (right-folded r rs b o.1 o.0))

  -- and so are all the reads at once
  pub view-folded : Accepted initial → (i : ℕ) (rs : List Record) (b : Option Node) → OrderlyStack rs b → view initial i rs b ≡ view initial i [] (folded rs b)
  view-folded ok i rs b o = cc (
    read-folded type (type-law initial) rs b o,
    fun_ext (λ k. read-folded (child k) (child-law initial k) rs b o),
    read-folded (attributes initial i) (attr-law initial ok i) rs b o,
    read-folded entries (entries-law initial) rs b o,
    read-folded link_text (text-law initial) rs b o,
    read-folded parent (parent-law initial) rs b o,
    fun_ext (λ k. read-folded (attribute k) (attribute-law initial k) rs b o),
    read-folded values (values-law initial) rs b o,
  )

  -- the lowest record folded into the base and gone
  pub read_low : {X : Type 0} (R : Read X) → Law initial R → (rs : List Record) (r : Record) (b : Option Node) → Right r (base_type b)
      → look R (low rs r) b ≡ look R rs (fold_record initial r b)
  unfolding look
  read_low R law [] r b h = law r b h
  read_low R law (q ∷ rs) r b h = ap (R.step q) (read_low R law rs r b h)

  pub orderly-popped : (rs : List Record) (r : Record) (b : Option Node) → OrderlyStack (low rs r) b → OrderlyStack rs (fold_record initial r b)
  orderly-popped [] r b o = tt
  orderly-popped (q ∷ rs) r b o =
      (rw (← (read_low type (type-law initial) rs r b (low-right rs r b o.1))) o.0, orderly-popped rs r b o.1)

  -- the lowest record folded into the base and still there
  right-again : (r : Record) (b : Option Node) → Right r (base_type b) → Right r (base_type (fold_record initial r b))
  right-again tombstone b h = tt
  right-again (delta d) b h = rw (← (type-law initial (delta d) b h)) (refl, h.1)

  pub orderly-again : (rs : List Record) (r : Record) (b : Option Node) → OrderlyStack (low rs r) b → OrderlyStack (low rs r) (fold_record initial r b)
  unfolding look
  orderly-again [] r b o = (right-again r b o.0, tt)
  orderly-again (q ∷ rs) r b o = (rw (type-low rs r (fold_record initial r b) b) o.0, orderly-again rs r b o.1)
