-- Reading the bytes that are left: what is read with what is left after it, or the fault of the first field that is not right.
use Rattle.std.specs.Prelude.{ℕ, ◌≡◌, refl, Bool, true, false, List, ◌++◌}
use Rattle.wire.specs.declared.fault.Fault.{Fault}
use Rattle.wire.specs.declared.fault.Fault.TheVariants.{Ended, Malformed}

pub data Parsed (A : Type 0) : Type 0 where
  fault : Fault → Parsed A
  got : A → List ℕ → Parsed A

abbrev pub bind : {A B : Type 0} → Parsed A → (A → List ℕ → Parsed B) → Parsed B
bind (fault f) k = fault f
bind (got a s) k = k a s

pub bind-bind : {A B C : Type 0} (o : Parsed A) (f : A → List ℕ → Parsed B) (g : B → List ℕ → Parsed C) → bind (bind o f) g ≡ bind o (λ a r. bind (f a r) g)
bind-bind (fault y) f g = refl
bind-bind (got a r) f g = refl

-- p where the test passes, and the fault where not
abbrev pub check : {A : Type 0} → Fault → Bool → Parsed A → Parsed A
check f true p = p
check f false p = fault f

pub never-got : {A B : Type 0} {f : Fault} {b : A} {q : List ℕ} → ◌≡◌ {A = Parsed A} (fault f) (got b q) → B
never-got e = cc

pub bind_inv : {A B : Type 0} (p : Parsed A) (k : A → List ℕ → Parsed B) {b : B} {q : List ℕ} → bind p k ≡ got b q
    → (a : A) × (r : List ℕ) × (p ≡ got a r) × (k a r ≡ got b q)
bind_inv (fault f) k e = never-got e
bind_inv (got a r) k e = (a, r, refl, e)

pub check_inv : {A : Type 0} (f : Fault) (t : Bool) (p : Parsed A) {b : A} {q : List ℕ} → check f t p ≡ got b q → (t ≡ true) × (p ≡ got b q)
check_inv f true p e = (refl, e)
check_inv f false p e = never-got e

-- What more bytes t do to what a parser says: nothing but to what is left, unless the bytes had ended.
abbrev pub Extends : {A : Type 0} → List ℕ → Parsed A → Parsed A → Type 0
Extends t (fault Ended) q = Unit {0}
Extends t (fault Malformed) q = q ≡ fault Malformed
Extends t (got a r) q = q ≡ got a (r ++ t)

pub bind-extends : {A B : Type 0} (t : List ℕ) (p q : Parsed A) (k : A → List ℕ → Parsed B) → Extends t p q
    → ((a : A) (r : List ℕ) → Extends t (k a r) (k a (r ++ t))) → Extends t (bind p k) (bind q k)
bind-extends t (fault Ended) q k e f = tt
bind-extends t (fault Malformed) q k e f = rw e
bind-extends t (got a r) q k e f = rw e (f a r)

pub check-extends : {A : Type 0} (t : List ℕ) (b : Bool) (p q : Parsed A) → Extends t p q → Extends t (check Malformed b p) (check Malformed b q)
check-extends t true p q e = e
check-extends t false p q e = refl
