-- The loops over the sources, and one row more or less of each.
-- Assumes nothing.
use Rattle.std.specs.Prelude.{None, Option, Some}
use mathlib.Core.Path.{◌≡◌, refl, sym, ◌∙◌}
use mathlib.Core.List.{List, [], ◌∷◌, ◌++◌, map, append_assoc, append-nil}
use Prim.Native.Nat.{ℕ, zero, suc, ◌+◌, ◌-◌, ◌≤◌, ◌<◌}
use native.Mathlib.Omega.{arith}
use native.Mathlib.Numerals.{add-one}
use Rattle.std.proofs.lemmas.List.{map-append}
use lib.ListN.{length, take, get_or, set}
use Rattle.wire.specs.declared.part.Part.{Part}
use Rattle.wire.specs.Orders.{by_bytes}
use Rattle.image.specs.Meaning.{Text}
use Rattle.nodes.specs.Options.{text_at}
use Rattle.rules.specs.Changes.{map_if}
use Rattle.merge.specs.Pile.{pass, pass_all, first, least}
use Rattle.merge.specs.Sources.{Decided, source_rows, sources_of, row_at, head_rows, HeadOf}
use Rattle.merge.specs.Merges.{in_order, Pushes, Upper, Least, Passed, PassedAll}
use Rattle.merge.specs.declared.source.Source.{Source}
use Rattle.merge.specs.declared.read.Head.{Head}
use Rattle.merge.specs.declared.sources.Lists.{Lists}
use Rattle.merge.specs.declared.merge.AtMostTwo.{AtMostTwo}
use Rattle.merge.specs.declared.merge.AtMostTwo.TheVariants as F

-- ---- lists more

pub many-two : (f : AtMostTwo) → length (in_order f) ≤ 2
many-two F.None = omega arith
many-two (F.One s) = omega arith
many-two (F.Two s t) = omega arith

-- the rows after lists more
pub sources-more : (img : List ℕ) {all r : Lists} {l : List Source} → Pushes all l r
    → sources_of img (take r.count r.rows) ≡ sources_of img (take all.count all.rows) ++ sources_of img l
sources-more img {all} {r} {l} p = rw p.are (map-append (source_rows img) (take all.count all.rows) l)

-- ---- the least name: of those seen, which are the last, it is that of best

pub record Best (img : List ℕ) (l rest : List Source) (best : Option Head) : Type 0 where
  pub seen : List Source
  pub are : l ≡ rest ++ seen
  pub is : Least img seen best

-- the row that stands first
first-is : {img : List ℕ} (s : Source) {h : Option Head} → HeadOf img s.what s.rows.count s.rows.first h
    → first by_bytes (source_rows img s) ≡ map_if (row_at img) h
first-is {img} s {h} d = go h d.are
  where
    go : (h : Option Head) → source_rows img s ≡ head_rows img s.what (s.rows.count - 1) h → first by_bytes (source_rows img s) ≡ map_if (row_at img) h
    go (Some a) e = rw e
    go None e = rw e

pub best_none : (img : List ℕ) (l : List Source) → Best img l l None
unfolding least
best_none img l = record { seen = []; are = sym (append-nil l); is = record { is = refl; inside = tt } }

-- the source before joins
pub best-more : {img : List ℕ} {l rest next : List Source} (s : Source) {best h r : Option Head} → Best img l rest best → rest ≡ next ++ s ∷ []
    → HeadOf img s.what s.rows.count s.rows.first h → Upper img h best r → Best img l next r
unfolding least
best-more {next = next} s b e f u = record {
  seen = s ∷ b.seen;
  are = b.are ∙ rw e (append_assoc next (s ∷ []) b.seen);
  is = record { is = rw (b.is.is, first-is s f) u.is; inside = u.inside f.inside b.is.inside };
}

-- ---- each source moved past a name: so far the first i

pub pass_to : ℕ → Text → List (List Decided) → List (List Decided)
pass_to zero k ss = ss
pass_to (suc i) k [] = []
pass_to (suc i) k (s ∷ ss) = pass by_bytes k s ∷ pass_to i k ss

abbrev pub Passing : List ℕ → List Source → Part → List Source → ℕ → Type 0
Passing img old name new i = sources_of img new ≡ pass_to i (text_at img name) (sources_of img old)

module _ (img : List ℕ) (k : Text) where
  pass-one : (l : List Source) (i : ℕ) (ss : List (List Decided)) (x d : Source) → i < length l → map (source_rows img) l ≡ pass_to i k ss
      → source_rows img x ≡ pass by_bytes k (source_rows img (get_or l i d)) → map (source_rows img) (set l i x) ≡ pass_to (suc i) k ss
  unfolding pass_to
  pass-one [] i ss x d h e w = absurd (omega arith)
  pass-one (s ∷ l) zero [] x d h e w = cc
  pass-one (s ∷ l) zero (t ∷ ss) x d h e w = cc
  pass-one (s ∷ l) (suc i) [] x d h e w = cc
  pass-one (s ∷ l) (suc i) (t ∷ ss) x d h e w =
      let g : map (source_rows img) l ≡ pass_to i k ss = cc in
      let f : source_rows img s ≡ pass by_bytes k t = cc in
      rw (pass-one l i ss x d (omega arith) g w, f)

  pass-each : (n : ℕ) (l : List Source) → length l ≤ n → pass_to n k (sources_of img l) ≡ pass_all by_bytes k (sources_of img l)
  unfolding pass_to pass_all
  pass-each zero [] h = refl
  pass-each zero (s ∷ l) h = absurd (omega arith)
  pass-each (suc n) [] h = refl
  pass-each (suc n) (s ∷ l) h = rw (pass-each n l (omega arith))

pub passing-none : (img : List ℕ) (l : List Source) (name : Part) → Passing img l name l 0
unfolding pass_to
passing-none img l name = refl

pub passing-more : (img : List ℕ) (old new : List Source) (name : Part) (i : ℕ) (d : Source) {r : Source} → Passing img old name new i → i < length new
    → Passed img (get_or new i d) name r
    → Passing img old name (set new i r) (i + 1)
passing-more img old new name i d {r} g h w = rw add-one (pass-one img (text_at img name) new i (sources_of img old) r d h g w.is)

pub passing-all : {img : List ℕ} {old new : List Source} {name : Part} (i : ℕ) → Passing img old name new i → length old ≤ i → PassedAll img old name new
passing-all {img} {old} {name = name} i g h = record { are = g ∙ pass-each img (text_at img name) i old h }
