-- The two orders of document 01: inodes as numbers, and names "by bytes".
use Rattle.std.specs.Prelude.{◌≡◌, refl, Bool, true, false, cond, List, [], ◌∷◌, ℕ, ◌<◌, ◌≤◌, ltb}
use Rattle.std.proofs.Common.{arith, lt-ltb, le-ltb, ltb-true, ltb-false}
use Rattle.std.specs.declared.cmp.Ordering.{Ordering}
use Rattle.std.specs.declared.cmp.Ordering.TheVariants.{Less, Equal, Greater}
use Rattle.wire.specs.Order.{Order}

abbrev pub cmp_n : ℕ → ℕ → Ordering
cmp_n a b = cond (ltb a b) Less (cond (ltb b a) Greater Equal)

-- ---- numbers

pub less-N : (a b : ℕ) → a < b → cmp_n a b ≡ Less
less-N a b h = simp (lt-ltb a b h)

pub greater-N : (a b : ℕ) → b < a → cmp_n a b ≡ Greater
greater-N a b h = simp (le-ltb a b (omega arith), lt-ltb b a h)

pub equal-N : (a b : ℕ) → a ≤ b → b ≤ a → cmp_n a b ≡ Equal
equal-N a b h k = simp (le-ltb a b k, le-ltb b a h)

-- what a comparison says
abbrev pub Says : ℕ → ℕ → Ordering → Type 0
Says a b Less = a < b
Says a b Equal = a ≡ b
Says a b Greater = b < a

pub says : (a b : ℕ) → Says a b (cmp_n a b)
says a b = go (ltb a b) refl (ltb b a) refl
  where
    go : (s : Bool) → ltb a b ≡ s → (t : Bool) → ltb b a ≡ t → Says a b (cond s Less (cond t Greater Equal))
    go true p t q = ltb-true a b p
    go false p true q = ltb-true b a q
    go false p false q = omega (arith, ltb-false a b p, ltb-false b a q)

pub same-N : (a b : ℕ) → cmp_n a b ≡ Equal → a ≡ b
same-N a b e = rw e at (says a b)

pub flip-N : (a b : ℕ) → cmp_n a b ≡ Greater → cmp_n b a ≡ Less
flip-N a b e = less-N b a (rw e at (says a b))

pub trans-N : (a b c : ℕ) → cmp_n a b ≡ Less → cmp_n b c ≡ Less → cmp_n a c ≡ Less
trans-N a b c d e =
    let h : a < b = rw d at (says a b) in
    let k : b < c = rw e at (says b c) in
    less-N a c (omega arith)

abbrev pub by_number : Order ℕ
by_number = record {
  cmp = cmp_n;
  same = same-N;
  self = λ a. equal-N a a (omega arith) (omega arith);
  flip = flip-N;
  trans = trans-N;
}

-- ---- texts: the first byte in which they differ decides, and the beginning of a text comes before it

abbrev pub and_then : Ordering → Ordering → Ordering
and_then Less d = Less
and_then Equal d = d
and_then Greater d = Greater

module _ {K : Type 0} (O : Order K) where
  abbrev pub cmp_l : List K → List K → Ordering
  cmp_l [] [] = Equal
  cmp_l [] (b ∷ y) = Less
  cmp_l (a ∷ x) [] = Greater
  cmp_l (a ∷ x) (b ∷ y) = and_then (O.cmp a b) (cmp_l x y)

  pub same-L : (x y : List K) → cmp_l x y ≡ Equal → x ≡ y
  same-L [] [] h = refl
  same-L [] (b ∷ y) h = cc
  same-L (a ∷ x) [] h = cc
  same-L (a ∷ x) (b ∷ y) h = go (O.cmp a b) refl h (same-L x y)
    where
      go : (c : Ordering) → O.cmp a b ≡ c → and_then c (cmp_l x y) ≡ Equal → (cmp_l x y ≡ Equal → x ≡ y) → ◌≡◌ {A = List K} (a ∷ x) (b ∷ y)
      go Less e h ih = cc
      go Greater e h ih = cc
      go Equal e h ih = cc (O.same a b e, ih h)

  pub self-L : (x : List K) → cmp_l x x ≡ Equal
  self-L [] = refl
  self-L (a ∷ x) = rw (O.self a) (self-L x)

  pub flip-L : (x y : List K) → cmp_l x y ≡ Greater → cmp_l y x ≡ Less
  flip-L [] [] h = cc
  flip-L [] (b ∷ y) h = cc
  flip-L (a ∷ x) [] h = refl
  flip-L (a ∷ x) (b ∷ y) h = go (O.cmp a b) refl h (flip-L x y)
    where
      go : (c : Ordering) → O.cmp a b ≡ c → and_then c (cmp_l x y) ≡ Greater → (cmp_l x y ≡ Greater → cmp_l y x ≡ Less) → and_then (O.cmp b a) (cmp_l y x) ≡ Less
      go Less e h ih = cc
      go Greater e h ih = rw (O.flip a b e)
      go Equal e h ih = rw (O.same a b e, O.self b) (ih h)

  pub trans-L : (x y z : List K) → cmp_l x y ≡ Less → cmp_l y z ≡ Less → cmp_l x z ≡ Less
  trans-L [] y [] p q = go y p q
    where
      go : (y : List K) → cmp_l [] y ≡ Less → cmp_l y [] ≡ Less → Equal ≡ Less
      go [] p q = cc
      go (b ∷ y) p q = cc
  trans-L [] y (c ∷ z) p q = refl
  trans-L (a ∷ x) [] z p q = cc
  trans-L (a ∷ x) (b ∷ y) [] p q = cc
  trans-L (a ∷ x) (b ∷ y) (c ∷ z) p q = go (O.cmp a b) (O.cmp b c) refl refl p q (trans-L x y z)
    where
      go : (d e : Ordering) → O.cmp a b ≡ d → O.cmp b c ≡ e → and_then d (cmp_l x y) ≡ Less → and_then e (cmp_l y z) ≡ Less
          → (cmp_l x y ≡ Less → cmp_l y z ≡ Less → cmp_l x z ≡ Less) → and_then (O.cmp a c) (cmp_l x z) ≡ Less
      go Less Less d e p q ih = rw (O.trans a b c d e)
      go Less Equal d e p q ih = rw (← (O.same b c e), d)
      go Less Greater d e p q ih = cc
      go Equal Less d e p q ih = rw (O.same a b d, e)
      go Equal Equal d e p q ih = rw (O.same a b d, e) (ih p q)
      go Equal Greater d e p q ih = cc
      go Greater e d e' p q ih = cc

  abbrev pub lexical : Order (List K)
  lexical = record { cmp = cmp_l; same = same-L; self = self-L; flip = flip-L; trans = trans-L }

abbrev pub by_bytes : Order (List ℕ)
by_bytes = lexical by_number
