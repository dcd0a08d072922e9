-- How values are read: what is there or not, and lists that stay in the image.
-- Assumes nothing.
use mathlib.Core.Path.{◌≡◌, refl, sym, ap, ◌∙◌}
use mathlib.Core.List.{List}
use Rattle.std.specs.Prelude.{Result, Ok, Err, None, Option, Some}
use Prim.Native.Nat.{ℕ, ◌/◌, ◌%◌, ◌-◌, ◌≤◌}
use native.Mathlib.Omega.{arith}
use lib.ListN.{length, drop, length-append, length-drop}
use Rattle.wire.specs.declared.fault.Fault.{Fault}
use Rattle.wire.specs.declared.part.Part.{Part}
use Rattle.wire.specs.Parse.{Parsed, got, bind, bind-bind}
use Rattle.wire.specs.Combinators.{opt-read}
use Rattle.wire.specs.Number.{number_read, number-one}
use Rattle.wire.specs.Orders.{by_bytes}
use Rattle.wire.specs.Maps.{Map}
use Rattle.wire.specs.Reading.{Reads}
use Rattle.wire.proofs.Readers.{read-then, read-stop, read-end}
use Rattle.image.specs.declared.name.Under.{Under}
use Rattle.image.specs.Under.{UnderName}
use Rattle.image.specs.Meaning.{Fields}
use Rattle.image.specs.Masks.{flag}
use Rattle.image.specs.FieldLayout.{word}
use Rattle.image.specs.RecordLayout.{later_flags, flags, fields, fields_of}
use Rattle.image.specs.Places.{Ends, maybe_read}
use Rattle.image.proofs.Passing.{ends-got, ends-fault}
use Rattle.nodes.specs.declared.attr.AttrDelta.{AttrDelta}
use Rattle.nodes.specs.Attrs.{later_read}
use Rattle.nodes.specs.Fields.{holds_if, ReadsAs}
use Rattle.std.specs.Option.{option_map}
use Rattle.std.proofs.lemmas.Iterator.Adapters.{option_map_id}
use Rattle.nodes.specs.Listed.{list_at, by_name, ReadsNames, part_from}
use Rattle.nodes.proofs.OneForm.{by_name-one}

-- a field that is there, or not
module _ {V M : Type 0} {img : List ℕ} (p : List ℕ → Parsed M) {says : V → M} {Holds : V → ℕ → Type 0} {at bit : ℕ} where
  pub field-none : bit ≡ 0 → at ≤ length img → ReadsAs img (opt-read p bit) (option_map says) (holds_if Holds) at (Ok (None, at))
  unfolding opt-read
  field-none e w = rw e (record { reads = read-end w; holds = tt })

  module _ {o : Result (V × ℕ) Fault} (n : bit ≡ 0 → ⊥) (l : bit ≤ 1) (h : ReadsAs img p says Holds at o) where
    pub field-some : {a : V} {m : ℕ} → o ≡ Ok (a, m) → ReadsAs img (opt-read p bit) (option_map says) (holds_if Holds) at (Ok (Some a, m))
    unfolding opt-read
    field-some d =
        let e : bit ≡ 1 = omega arith in
        let g = rw d at h in
        rw e (record { reads = read-then _ g.reads (read-end g.reads.within); holds = g.holds })

    pub field-stop : {f : Fault} {r : Result (Option V × ℕ) Fault} → o ≡ Err f → r ≡ Err f → ReadsAs img (opt-read p bit) (option_map says) (holds_if Holds)
        at r
    unfolding opt-read
    field-stop d k = let e : bit ≡ 1 = omega arith in let g = rw d at h in rw (e, k) (record { reads = read-stop _ g.reads; holds = tt })

-- after its bit
module _ {V M : Type 0} {img : List ℕ} (p : List ℕ → Parsed M) {says : V → M} {Holds : V → ℕ → Type 0} {at : ℕ}
    {o : Result (ℕ × ℕ) Fault} (h : Reads img (number_read 1) at o) where
  pub maybe-stop : {f : Fault} {r : Result (Option V × ℕ) Fault} → o ≡ Err f → r ≡ Err f → ReadsAs img (maybe_read p) (option_map says) (holds_if Holds) at r
  maybe-stop d k = rw k (record { reads = read-stop _ (rw d at h); holds = tt })

  pub maybe-field : {bit m : ℕ} {r : Result (Option V × ℕ) Fault} → o ≡ Ok (bit, m) → ReadsAs img (opt-read p bit) (option_map says) (holds_if Holds) m r
      → ReadsAs img (maybe_read p) (option_map says) (holds_if Holds) at r
  maybe-field d g = record { reads = read-then (λ b r. opt-read p b r) (rw d at h) g.reads; holds = g.holds }

-- ---- fields one after the other

-- the same bytes, made another value
pub reads_made : {A B : Type 0} {img : List ℕ} (p : List ℕ → Parsed A) (f : A → B) {at m : ℕ} {a : A} → Reads img p at (Ok (a, m))
    → Reads img (λ s. bind (p s) (λ a r. got (f a) r)) at (Ok (f a, m))
reads_made p f h = read-then _ h (read-end h.within)

pub reads-pair : {A B : Type 0} {img : List ℕ} (p : List ℕ → Parsed A) (q : List ℕ → Parsed B) {at m n : ℕ} {a : A} {b : B}
    → Reads img p at (Ok (a, m)) → Reads img q m (Ok (b, n)) → Reads {A = A × B} img (λ s. bind (p s) (λ a r. bind (q r) (λ b t. got (a, b) t))) at
    (Ok ((a, b), n))
reads-pair p q {a = a} h g = read-then _ h (reads_made q (λ b. (a, b)) g)

-- a reader that says the same of all bytes
pub reads_same : {A : Type 0} {img : List ℕ} {p q : List ℕ → Parsed A} {at : ℕ} {r : Result (A × ℕ) Fault} → ((s : List ℕ) → p s ≡ q s) → Reads img p at r →
    Reads img q at r
reads_same {img = img} {at = at} e h = record { same = sym (e (drop at img)) ∙ h.same; within = h.within }

-- a value is made of the first field, which says what follows
pub reads-tag : {A B C : Type 0} {img : List ℕ} (p : List ℕ → Parsed A) (k : A → List ℕ → Parsed B) (j : B → List ℕ → Parsed C) {at m : ℕ} {a : A}
    {r : Result (C × ℕ) Fault}
    → Reads img p at (Ok (a, m)) → Reads img (λ s. bind (k a s) j) m r → Reads img (λ s. bind (bind (p s) k) j) at r
reads-tag p k j h g = reads_same (λ s. sym (bind-bind (p s) k j)) (read-then _ h g)

-- where it stands before what follows
pub reads_first : {A B C : Type 0} {img : List ℕ} (p : List ℕ → Parsed A) (q : List ℕ → Parsed B) (j : A × B → List ℕ → Parsed C) {at m : ℕ} {a : A}
    {r : Result (C × ℕ) Fault}
    → Reads img p at (Ok (a, m)) → Reads img (λ s. bind (q s) (λ b t. j (a, b) t)) m r
    → Reads img (λ s. bind (bind (p s) (λ a r. bind (q r) (λ b t. got (a, b) t))) j) at r
reads_first p q j {a = a} h g =
    reads-tag p (λ a r. bind (q r) (λ b t. got (a, b) t)) j h (reads_same (λ s. sym (bind-bind (q s) (λ b t. got (a, b) t) j)) g)

-- ---- lists by name

-- a list is at least one byte long: its count
written_one : (u : Under) (m : Map by_bytes (UnderName u)) → 1 ≤ length ((by_name u).write m)
written_one u m = simp length-append (omega (arith, number-one (length m.rows)))

module _ {img : List ℕ} (u : Under) {n : ℕ} where
  module _ {q : ℕ} (h : Ends img (by_name u).read n (Ok q)) where
    -- so it ends after it starts
    list-forth : n ≤ q
    list-forth =
        let g = ends-got h in
        let f = ap length ((by_name-one u).forth (drop n img) g.0 (drop q img) g.1).0 in
        let w = (by_name u).write g.0 in
        let one : 1 ≤ length w = written_one u g.0 in
        omega (arith, f, length-append w (drop q img), one, length-drop n img, length-drop q img, h.within)

    list-is : (by_name u).read (drop n img) ≡ got (list_at img u (part_from n q)) (drop q img)
    list-is = let g = ends-got h in rw g.1

  module _ {o : Result ℕ Fault} (h : Ends img (by_name u).read n o) where
    pub reads-names : {q : ℕ} (p : Part) → o ≡ Ok q → (p.start ≡ n) × (p.length ≡ q - n) → ReadsNames img u n (Ok (p, q))
    reads-names {q} p d b =
        let g = rw d at h in
        let is : p ≡ part_from n q = rw (← b.1, ← b.0) refl in
        rw is (record {
          reads = record { same = list-is g; within = g.within };
          listed = record { is = list-is g; ends = omega (arith, list-forth g); inside = g.within };
          place = refl;
        })

    pub names-stop : {r : Result (Part × ℕ) Fault} {f : Fault} → o ≡ Err f → r ≡ Err f → ReadsNames img u n r
    names-stop d e = rw e (record { reads = record { same = ends-fault (rw d at h); within = tt }; listed = tt; place = tt })

-- ---- the mask and the fields

abbrev itself : Option ℕ → Option ℕ
itself = option_map (λ n. n)

abbrev bit : ℕ → List ℕ → Parsed (Option ℕ)
bit b = opt-read (number_read 4294967295) (b % 2)

module _ {img : List ℕ} {m at c0 c1 c2 c3 c4 : ℕ} {r : Result (Fields × ℕ) Fault} where
  pub reads-fields : (w : AttrDelta) → Reads img (number_read 511) at (Ok (m, c0)) → Reads img (bit m) c0 (Ok (itself w.mode, c1))
      → Reads img (bit (m / 2)) c1 (Ok (itself w.uid, c2)) → Reads img (bit (m / 2 / 2)) c2 (Ok (itself w.gid, c3))
      → Reads img (bit (m / 2 / 2 / 2)) c3 (Ok (itself w.nlink, c4)) → Reads img (later_read (m / 2 / 2 / 2 / 2) w) c4 r → Reads img fields.read at r
  unfolding fields
  reads-fields w h x' y' z' n' l =
      let x = rw (option_map_id w.mode) at x' in
      let y = rw (option_map_id w.uid) at y' in
      let z = rw (option_map_id w.gid) at z' in
      let n = rw (option_map_id w.nlink) at n' in
      let k1 = flag word later_flags in
      let k2 = flag word k1 in
      let k3 = flag word k2 in
      reads-tag (number_read 511) (λ m r. (flags.at m).read r) (λ p r. got (fields_of p) r) h
      (reads_first (bit m) (k3.at (m / 2)).read (λ p r. got (fields_of p) r) x
      (reads_first (bit (m / 2)) (k2.at (m / 2 / 2)).read (λ p r. got (fields_of (w.mode, p)) r) y
      (reads_first (bit (m / 2 / 2)) (k1.at (m / 2 / 2 / 2)).read (λ p r. got (fields_of (w.mode, (w.uid, p))) r) z
      (reads_first (bit (m / 2 / 2 / 2)) (later_flags.at (m / 2 / 2 / 2 / 2)).read
      (λ p r. got (fields_of (w.mode, (w.uid, (w.gid, p)))) r) n l))))
