-- How a source is read in the image, row by row.
-- Assumes nothing.
use Rattle.std.specs.Prelude.{Result, Ok, Err, None, Option, Some}
use Rattle.std.specs.Result.{result_ok}
use mathlib.Core.Path.{◌≡◌, refl, sym, ap}
use mathlib.Core.List.{List, ◌∷◌, ◌++◌}
use Prim.Native.Nat.{ℕ, zero, suc, ◌+◌, ◌-◌, ◌≤◌}
use native.Mathlib.Omega.{arith}
use lib.ListN.{length, drop, length-append, length-drop}
use lib.Seq.{length-take-le}
use Rattle.wire.specs.declared.fault.Fault.{Fault}
use Rattle.wire.specs.declared.part.Part.{Part}
use Rattle.wire.specs.Parse.{Parsed, fault, got, bind, never-got}
use Rattle.wire.specs.Codec.{Codec, OneForm}
use Rattle.wire.specs.Combinators.{◌then◌}
use Rattle.wire.specs.Number.{number_bytes, number_read, number-one, number_to}
use Rattle.wire.specs.Text.{text-read}
use Rattle.wire.specs.Lists.{last_count}
use Rattle.wire.specs.Reading.{Reads, ReadsPart, meant, part}
use Rattle.wire.proofs.Readers.{read-end, read-stop}
use Rattle.image.specs.FieldLayout.{name}
use Rattle.image.specs.Rows.{RowsAt}
use Rattle.image.specs.declared.rows.Rows.{Rows}
use Rattle.image.specs.Under.{UnderName, under}
use Rattle.image.specs.declared.name.Under.{Under}
use Rattle.image.specs.declared.name.Under.TheVariants as U
use Rattle.nodes.specs.Fields.{ReadsAs}
use Rattle.nodes.proofs.Values.{reads_made}
use Rattle.merge.specs.declared.source.Source.{Source}
use Rattle.merge.specs.declared.read.Given.{Given as GivenParts}
use Rattle.merge.specs.declared.read.Head.{Head}
use Rattle.merge.specs.Sources.{Given, Decided, choice, decided, chosen_read, rows_if, rows_from, given_if, row_at, HeadOf, ListOf}
use Rattle.wire.proofs.OneForm.{then-one}
use Rattle.wire.proofs.NumberForms.{number_to-one}
use Rattle.image.proofs.OneForm.{name-one, under-one}

-- ---- what stands under a name

pub given-nothing : {img : List ℕ} {u : Under} {at : ℕ} → u ≡ U.Nothing → at ≤ length img → Reads img (chosen_read u) at (Ok (None, at))
given-nothing e w = rw e (read-end w)

-- a field is read, and says what the name is given
module _ {V M : Type 0} {img : List ℕ} {p : List ℕ → Parsed M} {says : V → M} {Holds : V → ℕ → Type 0} {at : ℕ} {o : Result (V × ℕ) Fault}
    (k : M → Option Given) (h : ReadsAs img p says Holds at o) where
  pub given-stop : {f : Fault} {r : Result (Option GivenParts × ℕ) Fault} → o ≡ Err f → r ≡ Err f
      → Reads img (λ s. bind (p s) (λ v r. got (k v) r)) at (meant (given_if img) r)
  given-stop d e = rw e (read-stop _ (rw d at h).reads)

  pub given-made : {v : V} {m : ℕ} (g : Option GivenParts) → o ≡ Ok (v, m) → given_if img g ≡ k (says v)
      → Reads img (λ s. bind (p s) (λ v r. got (k v) r)) at (meant (given_if img) (Ok (g, m)))
  given-made g d e = rw e (reads_made p k (rw d at h).reads)

-- ---- a row

-- what is read, and is a byte long at least, ends as far on as it is long
read-on : {A : Type 0} (img : List ℕ) (c : Codec A) → OneForm c → (a : A) (p q : ℕ) → 1 ≤ length (c.write a) → q ≤ length img
    → c.read (drop p img) ≡ got a (drop q img)
    → q ≡ p + length (c.write a)
read-on img c one a p q h w e = omega (arith, simp (length-drop, length-append) at (ap length (one.forth _ _ _ e).0))

-- the first of some rows
rows-first : (img : List ℕ) (u : Under) (n p : ℕ) → (n ≡ 0 → ⊥)
    → rows_from img u n p
    ≡ rows_if ((name then under u).read (drop p img)) (λ e.
    (e.0, decided u (p + length (number_bytes (length e.0)), e.1)) ∷ rows_from img u (n - 1) (p + length (name.write e.0 ++ (under u).write e.1)))
unfolding rows_from
rows-first img u zero p h = absurd (h refl)
rows-first img u (suc n) p h = let z : suc n - 1 ≡ n = omega arith in rw z

module _ {img : List ℕ} {u : Under} {n p : ℕ} where
  pub head-none : n ≡ 0 → HeadOf img u n p None
  unfolding rows_from
  head-none e = record { are = rw e; inside = tt }

  -- a row that stands first is one of those left
  pub head-some : {h : Option Head} {x : Head} → HeadOf img u n p h → h ≡ Some x → 1 ≤ n
  unfolding rows_from
  head-some {h} {x} d i = go n _ (rw i at d.are)
    where
      go : (n : ℕ) (l : List Decided) → rows_from img u n p ≡ row_at img x ∷ l → 1 ≤ n
      go zero l f = absurd (omega (arith, ap length f))
      go (suc m) l f = omega arith

module _ (img : List ℕ) (u : Under) (p start size : ℕ) where
  -- a row is the name and what stands under it
  row-stop : {m : ℕ} {f : Fault} → Reads img name.read p (Ok (part img start size, m)) → Reads img (chosen_read u) m (Err f)
      → (name then under u).read (drop p img) ≡ fault f
  row-stop {m} {f} t v = rw t.same (go ((under u).read (drop m img)) v.same)
    where
      go : (o : Parsed (UnderName u)) → bind o (λ a r. got (choice u a) r) ≡ fault f
          → bind {B = List ℕ × UnderName u} o (λ b q. got (part img start size, b) q) ≡ fault f
      go (fault g) e = cc
      go (got a r) e = never-got (sym e)

  row_read : {m : ℕ} (x : Option Given) (q : ℕ) → Reads img name.read p (Ok (part img start size, m)) → Reads img (chosen_read u) m (Ok (x, q))
      → (v : UnderName u) × (choice u v ≡ x) × ((name then under u).read (drop p img) ≡ got (part img start size, v) (drop q img))
  row_read {m} x q t v = go ((under u).read (drop m img)) refl v.same
    where
      go : (o : Parsed (UnderName u)) → (under u).read (drop m img) ≡ o → bind o (λ a r. got (choice u a) r) ≡ got x (drop q img)
          → (v : UnderName u) × (choice u v ≡ x) × ((name then under u).read (drop p img) ≡ got (part img start size, v) (drop q img))
      go (fault f) d e = never-got e
      go (got a r) d e = let z : r ≡ drop q img = cc in (a, cc, rw (t.same, d, z))

  -- the name stands after its length
  name-start : {m : ℕ} → start + size ≤ length img → m ≡ start + size → Reads img name.read p (Ok (part img start size, m))
      → start ≡ p + length (number_bytes (length (part img start size)))
  name-start {m} i e t =
      let k = part img start size in
      let z : m ≡ p + length (name.write k) = read-on img name name-one k p m (simp length-append (omega (arith, number-one (length k)))) t.within t.same in
      omega (arith, z, length-append (number_bytes (length k)) k, length-take-le size (drop start img) (omega (arith, length-drop start img, i)), e)

named : {img : List ℕ} {p m : ℕ} {k : Part} {o : Result (Part × ℕ) Fault} → ReadsPart img (text-read 1 255) p o → o ≡ Ok (k, m)
    → Reads img name.read p (Ok (part img k.start k.length, m))
named t d = let g = rw d at t in record { same = g.same; within = omega (arith, g.within.0, g.within.1) }

module _ {img : List ℕ} {u : Under} {n p : ℕ} {o : Result (Part × ℕ) Fault} (h : n ≡ 0 → ⊥) (t : ReadsPart img (text-read 1 255) p o) where
  pub row-unnamed : {f : Fault} {r : Result Head Fault} → o ≡ Err f → r ≡ Err f → HeadOf img u n p (result_ok r)
  row-unnamed d e = let g = rw d at t in rw e (record { are = rw (rows-first img u n p h, g.same); inside = tt })

  module _ {k : Part} {m : ℕ} (d : o ≡ Ok (k, m)) {w : Result (Option GivenParts × ℕ) Fault} (v : Reads img (chosen_read u) m (meant (given_if img) w)) where
    pub row-unread : {f : Fault} {r : Result Head Fault} → w ≡ Err f → r ≡ Err f → HeadOf img u n p (result_ok r)
    row-unread x e = rw e (record { are = rw (rows-first img u n p h, row-stop img u p k.start k.length (named t d) (rw x at v)); inside = tt })

    pub row-there : {g : Option GivenParts} {q : ℕ} → w ≡ Ok (g, q) → HeadOf img u n p (Some (record { name = k; given = g; next = q }))
    row-there {g} {q} x =
        let i = (rw d at t).within in
        let t = named t d in
        let v = rw x at v in
        let b = part img k.start k.length in
        let r = row_read img u p k.start k.length (given_if img g) q t v in
        let w = name.write b ++ (under u).write r.0 in
        let long : 1 ≤ length w = simp length-append (omega (arith, number-one (length b))) in
        let z : q ≡ p + length w = read-on img (name then under u) (then-one name (under u) name-one (under-one u)) (b, r.0) p q long v.within r.2 in
        let y = name-start img u p k.start k.length i.0 i.1 t in
        record { are = rw (rows-first img u n p h, r.2, r.1, ← y, ← z); inside = i.0 }

-- ---- a list, its count first

pub list-read : {img : List ℕ} {u : Under} {p : ℕ} {r : Rows} → RowsAt img last_count p r → (s : Source) → s.rows ≡ r → s.what ≡ u → ListOf img u p s
unfolding rows_from
list-read {img} {u} {p} {r} h s i j = record { are = rw (i, j) (go (number_read last_count (drop p img)) refl) }
  where
    go : (o : Parsed ℕ) → number_read last_count (drop p img) ≡ o
        → rows_from img u r.count r.first ≡ rows_if o (λ n. rows_from img u n (p + length (number_bytes n)))
    go (fault f) e = rw (h.uncounted f e).0
    go (got n t) e =
        let g = h.counted n t e in
        let within = h.within in
        let z : r.first ≡ p + length (number_bytes n) =
        read-on img (number_to last_count refl) (number_to-one last_count refl) n p r.first (number-one n) within (rw (g.1) e) in
        rw (g.0, z)
