-- The law of a read: of a base that a record was folded into, it is the record's step over the read of the base.
use Rattle.std.specs.Prelude.{IsSome, None, Option, Some}
use mathlib.Core.Path.{◌≡◌, refl, sym as inverse, ◌∙◌, ap}
use mathlib.Core.List.{[]}
use mathlib.Core.Bool.{Bool, true, false}
use Prim.Native.Nat.{ℕ}
use lib.Dec.{T, eqb_refl}
use lib.ListN.{length}
use native.Mathlib.Omega.{arith}
use Rattle.wire.specs.Orders.{by_bytes}
use Rattle.wire.specs.Maps.{meet, empty, get, get-merge, get-empty}
use Rattle.image.specs.Meaning.{Text, Special, Kind, Entries, Attributes, Device, Body, Node, Changes, Names, Change, Delta, Record, directory, file, symlink, special, pipe, character, block, socket, tombstone, delta, kind_number, special_of, kind_of, changed_kind}
use Rattle.rules.specs.Initial.{Initial, Accepted}
use Rattle.rules.specs.Fold.{given, cut, add_all, remove_all, alter_all, on_body, applied, first_body, first_node, same_kind, fold_record}
use Rattle.rules.specs.Reads.{Read, type, base_type, child, body_child, change_child, entries, body_entries, change_entries, link_text, body_text, change_text, parent, body_parent, change_parent, or_else, change_of, attribute, values}
use Rattle.rules.specs.FileAttrs.{base_attr, length_if, first_attr, step_attr, attributes}
use Rattle.rules.specs.Orderly.{Suits, LinkMode, Tidy, Right}

-- ---- kinds

T_true : (b : Bool) → T b → b ≡ true
T_true true t = refl
T_true false t = absurd t

pub same_kind_lem : (k j : Kind) → k ≡ j → same_kind k j ≡ true
unfolding same_kind
same_kind_lem k j e = rw e (T_true _ (eqb_refl (kind_number j)))

pub kind-on : (c : Change) (b : Body) → kind_of (on_body c b) ≡ kind_of b
kind-on (directory p a r) (directory q es) = refl
kind-on (directory p a r) (file n) = refl
kind-on (directory p a r) (symlink t) = refl
kind-on (directory p a r) (special d) = refl
kind-on (file n) (directory q es) = refl
kind-on (file n) (file m) = refl
kind-on (file n) (symlink t) = refl
kind-on (file n) (special d) = refl
kind-on (symlink t) (directory q es) = refl
kind-on (symlink t) (file n) = refl
kind-on (symlink t) (symlink u) = refl
kind-on (symlink t) (special d) = refl
kind-on (special s d) b = refl

pub kind-first : (c : Change) → kind_of (first_body c) ≡ changed_kind c
kind-first (directory p a r) = refl
kind-first (file n) = refl
kind-first (symlink t) = refl
kind-first (special pipe d) = refl
kind-first (special character d) = refl
kind-first (special block d) = refl
kind-first (special socket d) = refl

-- a change and a body of one kind: four cases
abbrev pub shape : Kind → ℕ
shape directory = 0
shape file = 1
shape symlink = 2
shape (special s) = 3

special-of : Kind → Special
special-of directory = pipe
special-of file = pipe
special-of symlink = pipe
special-of (special s) = s

pub one-kind : (P : Change → Body → Type 0)
    → ((p : Option ℕ) (a : Entries) (r : Names) (q : ℕ) (es : Entries) → P (directory p a r) (directory q es))
    → ((n : Option ℕ) (m : ℕ) → P (file n) (file m))
    → ((t : Option Text) (u : Text) → P (symlink t) (symlink u))
    → ((s : Special) (d : ℕ) (v : Device) → s ≡ special_of v → P (special s d) (special v))
    → (c : Change) (b : Body) → changed_kind c ≡ kind_of b → P c b
one-kind P f g h i (directory p a r) (directory q es) e = f p a r q es
one-kind P f g h i (directory p a r) (file n) e = absurd (omega (arith, ap shape e))
one-kind P f g h i (directory p a r) (symlink t) e = absurd (omega (arith, ap shape e))
one-kind P f g h i (directory p a r) (special d) e = absurd (omega (arith, ap shape e))
one-kind P f g h i (file n) (directory q es) e = absurd (omega (arith, ap shape e))
one-kind P f g h i (file n) (file m) e = g n m
one-kind P f g h i (file n) (symlink t) e = absurd (omega (arith, ap shape e))
one-kind P f g h i (file n) (special d) e = absurd (omega (arith, ap shape e))
one-kind P f g h i (symlink t) (directory q es) e = absurd (omega (arith, ap shape e))
one-kind P f g h i (symlink t) (file n) e = absurd (omega (arith, ap shape e))
one-kind P f g h i (symlink t) (symlink u) e = h t u
one-kind P f g h i (symlink t) (special d) e = absurd (omega (arith, ap shape e))
one-kind P f g h i (special s d) (directory q es) e = absurd (omega (arith, ap shape e))
one-kind P f g h i (special s d) (file n) e = absurd (omega (arith, ap shape e))
one-kind P f g h i (special s d) (symlink t) e = absurd (omega (arith, ap shape e))
one-kind P f g h i (special s d) (special v) e = i s d v (unfold special-of in ap special-of e)

-- ---- folding one record

module _ (initial : Initial) where
  -- on nothing, and on a node of its kind, a delta is applied to a node
  pub fold_same : (d : Delta) (n : Node) → changed_kind d.change ≡ kind_of n.body → fold_record initial (delta d) (Some n) ≡ Some (applied d n)
  unfolding fold_record
  fold_same d n e = rw (same_kind_lem _ _ e)

  pub fold-none : (d : Delta) → fold_record initial (delta d) None ≡ Some (applied d (first_node initial d.change))
  unfolding fold_record
  fold-none d = refl

  pub fold-tombstone : (n : Option Node) → fold_record initial tombstone n ≡ None
  unfolding fold_record
  fold-tombstone n = refl

  -- ---- the law

  abbrev pub Law : {X : Type 0} → Read X → Type 0
  Law R = (r : Record) (n : Option Node) → Right r (base_type n) → R.step r (R.base n) ≡ R.base (fold_record initial r n)

  -- It is enough to show it of a tombstone, of a delta and a node of its kind, and that a delta on nothing is one on its first node.
  lawful : {X : Type 0} (R : Read X)
      → ((n : Option Node) → R.step tombstone (R.base n) ≡ R.base None)
      → ((d : Delta) → Suits d.change None → R.step (delta d) (R.base None) ≡ R.step (delta d) (R.base (Some (first_node initial d.change))))
      → ((d : Delta) (n : Node) → changed_kind d.change ≡ kind_of n.body → Tidy d.change d.fields → R.step (delta d) (R.base (Some n)) ≡ R.base (Some (applied d n)))
      → Law R
  lawful R t o s tombstone n h = rw fold-tombstone (t n)
  lawful R t o s (delta d) None h = rw fold-none (o d h.0 ∙ s d (first_node initial d.change) (inverse (kind-first d.change)) h.1)
  lawful R t o s (delta d) (Some n) h = rw (fold_same d n h.0) (s d n h.0 h.1)

  pub type-law : Law type
  type-law = lawful type (λ n. refl) (λ d f. refl) (λ d n e t. ap Some (e ∙ inverse (kind-on d.change n.body)))

-- ---- child

-- a name in entries that a delta removed from and added to
pub added-removed : (k : Text) (a : Entries) (r : Names) (es : Entries)
    → get by_bytes k (add_all a (remove_all r es)) ≡ meet (λ i o. Some i) (get by_bytes k a) (meet (λ u o. None) (get by_bytes k r) (get by_bytes k es))
added-removed k a r es = simp get-merge

disjoint : {A B : Type 0} (a : Option A) (r : Option B) (x : Option A) → (IsSome a → IsSome r → ⊥)
    → meet (λ u o. None) r (meet (λ i o. Some i) a x) ≡ meet (λ i o. Some i) a (meet (λ u o. None) r x)
disjoint None r x n = refl
disjoint (Some a) None x n = refl
disjoint (Some a) (Some r) x n = absurd (n refl refl)

pub child-law : (initial : Initial) (k : Text) → Law initial (child k)
child-law initial k = lawful initial (child k) (λ n. refl)
    (λ d f. nothing d.change)
    (λ d n e t. one-kind (λ c b. Tidy c d.fields → change_child k c (body_child k b) ≡ body_child k (on_body c b))
    (λ p a r q es t. disjoint (get by_bytes k a) (get by_bytes k r) (get by_bytes k es) (t k) ∙ inverse (added-removed k a r es))
    (λ n m t. refl) (λ t u t'. refl) (λ s d v e t. refl) d.change n.body e t)
  where
    nothing : (c : Change) → change_child k c None ≡ change_child k c (body_child k (first_body c))
    nothing (directory p a r) = rw get-empty
    nothing (file n) = refl
    nothing (symlink t) = refl
    nothing (special s d) = refl

-- ---- attributes

first-attr : (initial : Initial) → Accepted initial → (i : ℕ) (c : Change) → base_attr i (Some (first_node initial c)) ≡ Some (first_attr initial i c)
first-attr initial ok i (directory p a r) = refl
first-attr initial ok i (file n) = refl
first-attr initial ok i (symlink t) = rw ok
first-attr initial ok i (special pipe d) = refl
first-attr initial ok i (special character d) = refl
first-attr initial ok i (special block d) = refl
first-attr initial ok i (special socket d) = refl

length-given : (t : Option Text) (u : Text) → given (length_if t) (length u) ≡ length (given t u)
length-given None u = refl
length-given (Some t) u = refl

-- a symlink's mode shows 777
link-mode : (mode : Option ℕ) → LinkMode mode → given (cut mode) 0o777 ≡ 0o777
link-mode mode h = rw h

pub attr-law : (initial : Initial) → Accepted initial → (i : ℕ) → Law initial (attributes initial i)
attr-law initial ok i = lawful initial (attributes initial i) (λ n. refl)
    (λ d f. inverse (ap (step_attr initial i (delta d)) (first-attr initial ok i d.change)))
    (λ d n e t. one-kind (λ c b. Tidy c d.fields → step_attr initial i (delta (record { fields = d.fields; change = c })) (base_attr i (Some (record { meta = n.meta; body = b })))
    ≡ base_attr i (Some (applied (record { fields = d.fields; change = c }) (record { meta = n.meta; body = b }))))
    (λ p a r q es t. refl) (λ n m t. refl) (λ t u m. rw (link-mode d.fields.mode m, length-given)) (λ s d v e t. refl) d.change n.body e t)

-- ---- listing

pub entries-law : (initial : Initial) → Law initial entries
entries-law initial = lawful initial entries (λ n. refl) (λ d f. nothing d.change)
    (λ d n e t. one-kind (λ c b. change_entries c (body_entries b) ≡ body_entries (on_body c b))
    (λ p a r q es. refl) (λ n m. refl) (λ t u. refl) (λ s d v e. refl) d.change n.body e)
  where
    nothing : (c : Change) → change_entries c (empty by_bytes) ≡ change_entries c (body_entries (first_body c))
    nothing (directory p a r) = refl
    nothing (file n) = refl
    nothing (symlink t) = refl
    nothing (special s d) = refl

-- ---- link text and parent

or-given : {A : Type 0} (o : Option A) (x : A) → or_else o (Some x) ≡ Some (given o x)
or-given None x = refl
or-given (Some a) x = refl

-- nothing is not something
pub not-some : false ≡ true → ⊥
not-some h = cc

or_some : {A : Type 0} (o : Option A) (x y : Option A) → IsSome o → or_else o x ≡ or_else o y
or_some None x y h = absurd (not-some h)
or_some (Some a) x y h = refl

pub text-law : (initial : Initial) → Law initial link_text
text-law initial = lawful initial link_text (λ n. refl) (λ d f. nothing d.change f)
    (λ d n e t. one-kind (λ c b. change_text c (body_text b) ≡ body_text (on_body c b))
    (λ p a r q es. refl) (λ n m. refl) (λ t u. or-given t u) (λ s d v e. refl) d.change n.body e)
  where
    nothing : (c : Change) → Suits c None → change_text c None ≡ change_text c (body_text (first_body c))
    nothing (directory p a r) f = refl
    nothing (file n) f = refl
    nothing (symlink t) f = or_some t None (Some []) f
    nothing (special s d) f = refl

pub parent-law : (initial : Initial) → Law initial parent
parent-law initial = lawful initial parent (λ n. refl) (λ d f. nothing d.change f)
    (λ d n e t. one-kind (λ c b. change_parent c (body_parent b) ≡ body_parent (on_body c b))
    (λ p a r q es. or-given p q) (λ n m. refl) (λ t u. refl) (λ s d v e. refl) d.change n.body e)
  where
    nothing : (c : Change) → Suits c None → change_parent c None ≡ change_parent c (body_parent (first_body c))
    nothing (directory p a r) f = or_some p None (Some 1) f
    nothing (file n) f = refl
    nothing (symlink t) f = refl
    nothing (special s d) f = refl

-- ---- extended attributes

meet-given : {A : Type 0} (o : Option A) (x : A) → meet (λ i o. i) o x ≡ given o x
meet-given None x = refl
meet-given (Some a) x = refl

altered : (k : Text) (o : Option Changes) (vs : Attributes) → given (change_of k o) (get by_bytes k vs) ≡ get by_bytes k (meet alter_all o vs)
altered k None vs = refl
altered k (Some c) vs = simp (get-merge, meet-given)

pub attribute-law : (initial : Initial) (k : Text) → Law initial (attribute k)
attribute-law initial k = lawful initial (attribute k) (λ n. refl) (λ d f. rw get-empty) (λ d n e t. altered k d.fields.attributes n.meta.attributes)

pub values-law : (initial : Initial) → Law initial values
values-law initial = lawful initial values (λ n. refl) (λ d f. refl) (λ d n e t. refl)
