-- Each change at its inode: the live record it makes is right, and folded over what is beneath it is the direct step.
use Rattle.std.specs.Prelude.{IsSome, None, Option, Some}
use mathlib.Core.Path.{◌≡◌, refl, sym as inverse, ◌∙◌, ap}
use Prim.Native.Nat.{ℕ}
use native.Mathlib.Omega.{arith}
use Rattle.wire.specs.declared.time.Time.{Time}
use Rattle.std.specs.declared.cmp.Ordering.{Ordering}
use Rattle.std.specs.declared.cmp.Ordering.TheVariants.{Less, Equal, Greater}
use Rattle.wire.specs.Rows.{choose}
use Rattle.wire.specs.Orders.{by_bytes}
use Rattle.wire.specs.Maps.{Map, meet, merge, empty, get, put, get-put, get-merge, get-empty, map-ext}
use Rattle.image.specs.Meaning.{Text, Kind, Entries, Attributes, Body, Meta, Node, Changes, Fields, Names, Change, Delta, Record, directory, file, symlink, special, tombstone, delta, kind_of, changed_kind}
use Rattle.rules.specs.Initial.{Initial}
use Rattle.rules.specs.Fold.{given, cut, add_all, remove_all, alter_all, on_meta, on_body, applied, first_node, fold_record}
use Rattle.rules.specs.Reads.{base_type, or_else}
use Rattle.rules.specs.Changes.{DirectoryChange, no_fields, on_directory, adding, removing, setting_parent, map_if, merge_changes, merge_fields, bare_change, updated}
use Rattle.rules.specs.Table.{NodeChange, naming, parenting, change_node, update_node}
use Rattle.rules.specs.Orderly.{Suits, Disjoint, LinkMode, Tidy, Right, ModeFor}
use Rattle.rules.proofs.Laws.{type-law, fold_same, fold-none, fold-tombstone, kind-first, added-removed, not-some, shape}

-- what the live record, if any, needs of the type beneath
abbrev pub Right? : Option Record → Option Kind → Type 0
Right? None x = Unit {0}
Right? (Some r) x = Right r x

-- a change at its inode: h of the live record, f of the node; n is the node beneath the live record
pub record Acts (initial : Initial) (h : Option Record → Option Record) (f : Option Node → Option Node) (o : Option Record) (n : Option Node) : Type 0 where
  pub right : Right? (h o) (base_type n)
  pub step : meet (fold_record initial) (h o) n ≡ f (meet (fold_record initial) o n)

-- ---- facts of a directory's delta and of a directory

abbrev dir_delta : Fields → Option ℕ → Entries → Names → Delta
dir_delta f p a r = record { fields = f; change = directory p a r }

-- a body of the kind directory is a directory
pub only-directory : (P : Body → Type 0) → ((q : ℕ) (es : Entries) → P (directory q es)) → (b : Body) → Kind.directory ≡ kind_of b → P b
only-directory P f (directory q es) e = f q es
only-directory P f (file n) e = absurd (omega (arith, ap shape e))
only-directory P f (symlink t) e = absurd (omega (arith, ap shape e))
only-directory P f (special d) e = absurd (omega (arith, ap shape e))

empty-entries : (es : Entries) → add_all (empty by_bytes) (remove_all (empty by_bytes) es) ≡ es
empty-entries es = map-ext by_bytes _ _ (λ k. simp (get-merge, get-empty))

none-added : (r : Names) → Disjoint (empty by_bytes) r
none-added r k h i = not-some (rw get-empty at h)

-- a change of a delta is a change of the directory that it is applied to
pub record Sound (D : DirectoryChange) (N : NodeChange) : Type 0 where
  pub parents : (p : Option ℕ) (q : ℕ) → given (D.parent p) q ≡ N.parent (given p q)
  pub entries : (a : Entries) (r : Names) (es : Entries) → add_all (D.added a) (remove_all (D.removed r) es) ≡ N.entries (add_all a (remove_all r es))
  pub metas : (f : Fields) (m : Meta) → on_meta (D.fields f) m ≡ N.meta (on_meta f m)
  pub named : (p : Option ℕ) → IsSome p → IsSome (D.parent p)
  pub disjoint : (a : Entries) (r : Names) → Disjoint a r → Disjoint (D.added a) (D.removed r)

module _ (initial : Initial) where
  -- ---- tombstone, insert

  pub tombstone-acts : (o : Option Record) (n : Option Node) → Acts initial (λ o. Some tombstone) (λ n. None) o n
  tombstone-acts o n = record { right = tt; step = fold-tombstone initial n }

  -- where the inode does not exist and has no live record
  pub insert-acts : (r : Record) → Right r None → Acts initial (λ o. Some r) (λ n. fold_record initial r None) None None
  insert-acts r h = record { right = h; step = refl }

  -- ---- the changes of a directory

  -- the node that a delta is applied to
  abbrev ground : Change → Option Node → Node
  ground c None = first_node initial c
  ground c (Some n) = n

  fold-right : (d : Delta) (n : Option Node) → Right (delta d) (base_type n) → fold_record initial (delta d) n ≡ Some (applied d (ground d.change n))
  fold-right d None h = fold-none initial d
  fold-right d (Some n) h = fold_same initial d n h.0

  ground-kind : (c : Change) (n : Option Node) → Suits c (base_type n) → changed_kind c ≡ kind_of (ground c n).body
  ground-kind c None h = inverse (kind-first c)
  ground-kind c (Some n) h = h

  same-ground : (p p' : Option ℕ) (a a' : Entries) (r r' : Names) (n : Option Node) → ground (directory p a r) n ≡ ground (directory p' a' r') n
  same-ground p p' a a' r r' None = refl
  same-ground p p' a a' r r' (Some n) = refl

  module _ (D : DirectoryChange) (N : NodeChange) (S : Sound D N) where
    changed : (f : Fields) (p : Option ℕ) (a : Entries) (r : Names) (m : Meta) (b : Body) → Kind.directory ≡ kind_of b
        → applied (dir_delta (D.fields f) (D.parent p) (D.added a) (D.removed r)) (record { meta = m; body = b })
        ≡ change_node N (applied (dir_delta f p a r) (record { meta = m; body = b }))
    changed f p a r m = only-directory (λ b. applied (dir_delta (D.fields f) (D.parent p) (D.added a) (D.removed r)) (record { meta = m; body = b })
        ≡ change_node N (applied (dir_delta f p a r) (record { meta = m; body = b })))
        (λ q es. λ i. record { meta = S.metas f m i; body = directory (S.parents p q i) (S.entries a r es i) })

    unchanged : (m : Meta) (b : Body) → Kind.directory ≡ kind_of b
        → applied (dir_delta no_fields None (empty by_bytes) (empty by_bytes)) (record { meta = m; body = b }) ≡ record { meta = m; body = b }
    unchanged m = only-directory (λ b. applied (dir_delta no_fields None (empty by_bytes) (empty by_bytes)) (record { meta = m; body = b }) ≡ record { meta = m; body = b })
        (λ q es. λ i. record { meta = m; body = directory q (empty-entries es i) })

    suits : (p : Option ℕ) (a : Entries) (r : Names) (x : Option Kind) → Suits (directory p a r) x → Suits (directory (D.parent p) (D.added a) (D.removed r)) x
    suits p a r None h = S.named p h
    suits p a r (Some k) h = h

    onto : (f : Fields) (p : Option ℕ) (a : Entries) (r : Names) (n : Option Node) → Right (delta (dir_delta f p a r)) (base_type n)
        → Acts initial (on_directory D) (map_if (change_node N)) (Some (delta (dir_delta f p a r))) n
    onto f p a r n h =
        let right : Right (delta (dir_delta (D.fields f) (D.parent p) (D.added a) (D.removed r))) (base_type n)
        = (suits p a r (base_type n) h.0, S.disjoint a r h.1) in
        record {
          right = right;
          step = rw (fold-right (dir_delta f p a r) n h) (fold-right _ n right
              ∙ ap Some (rw (same-ground (D.parent p) p (D.added a) a (D.removed r) r n)
              (changed f p a r (ground (directory p a r) n).meta (ground (directory p a r) n).body (ground-kind (directory p a r) n h.0))));
        }

    -- with no live record, over a directory
    anew : (n : Option Node) → base_type n ≡ Some directory → Acts initial (on_directory D) (map_if (change_node N)) None n
    anew None e = cc
    anew (Some n) e =
        let k : Kind.directory ≡ kind_of n.body = cc in
        let act = onto no_fields None (empty by_bytes) (empty by_bytes) (Some n) (k, none-added (empty by_bytes)) in
        record {
          right = act.right;
          step = act.step ∙ ap (map_if (change_node N)) (fold_same initial (dir_delta no_fields None (empty by_bytes) (empty by_bytes)) n k ∙ ap Some (unchanged n.meta n.body k));
        }

    of-kind : (f : Fields) (c : Change) (n : Option Node) → Right (delta (record { fields = f; change = c })) (base_type n) → changed_kind c ≡ directory
        → Acts initial (on_directory D) (map_if (change_node N)) (Some (delta (record { fields = f; change = c }))) n
    of-kind f (directory p a r) n h e = onto f p a r n h
    of-kind f (file m) n h e = absurd (omega (arith, ap shape e))
    of-kind f (symlink t) n h e = absurd (omega (arith, ap shape e))
    of-kind f (special s d) n h e = absurd (omega (arith, ap shape e))

    pub directory-acts : (o : Option Record) (n : Option Node) → Right? o (base_type n) → base_type (meet (fold_record initial) o n) ≡ Some directory
        → Acts initial (on_directory D) (map_if (change_node N)) o n
    directory-acts None n h e = anew n e
    directory-acts (Some tombstone) n h e = absurd (let z : ◌≡◌ {A = ℕ} 0 1 = cc (fold-tombstone initial n) in omega arith)
    directory-acts (Some (delta d)) n h e = of-kind d.fields d.change n h (let z = type-law initial (delta d) n h in cc)

-- ---- add entry, remove entry, set parent

-- a name put among those added and taken out of those removed, or the reverse
put_entries : (k : Text) (o : Option ℕ) (u : Option (Unit {0})) → ((x : Option ℕ) → meet (λ i o. Some i) o (meet (λ u o. None) u x) ≡ o)
    → (a : Entries) (r : Names) (es : Entries)
    → add_all (put by_bytes k o a) (remove_all (put by_bytes k u r) es) ≡ put by_bytes k o (add_all a (remove_all r es))
put_entries k o u h a r es = map-ext by_bytes _ _ (λ j. simp (added-removed, get-put) (go (by_bytes.cmp j k) (get by_bytes j a) (get by_bytes j r) (get by_bytes j es)))
  where
    go : (d : Ordering) (x : Option ℕ) (y : Option (Unit {0})) (z : Option ℕ)
        → meet (λ i o. Some i) (choose d o x) (meet (λ u o. None) (choose d u y) z) ≡ choose d o (meet (λ i o. Some i) x (meet (λ u o. None) y z))
    go Less x y z = refl
    go Equal x y z = h z
    go Greater x y z = refl

-- one of two maps loses the name, whatever the other gains
loses : {A B : Type 0} (k : Text) (o : Option A) (a : Map by_bytes A) (r : Map by_bytes B) → ((j : Text) → IsSome (get by_bytes j a) → IsSome (get by_bytes j r) → ⊥)
    → (j : Text) → IsSome (get by_bytes j (put by_bytes k o a)) → IsSome (get by_bytes j (put by_bytes k None r)) → ⊥
loses {A} {B} k o a r n j h i = go (by_bytes.cmp j k) (rw get-put at h) (rw get-put at i)
  where
    go : (d : Ordering) → IsSome (choose d o (get by_bytes j a)) → IsSome (choose d None (get by_bytes j r)) → ⊥
    go Less h i = n j h i
    go Equal h i = absurd (not-some i)
    go Greater h i = n j h i

pub add-sound : (k : Text) (c : ℕ) (t : Time) → Sound (adding k c t) (naming k (Some c) t)
add-sound k c t = record {
  parents = λ p q. refl;
  entries = put_entries k (Some c) None (λ x. refl);
  metas = λ f m. refl;
  named = λ p h. h;
  disjoint = λ a r. loses k (Some c) a r;
}

pub remove-sound : (k : Text) (t : Time) → Sound (removing k t) (naming k None t)
remove-sound k t = record {
  parents = λ p q. refl;
  entries = put_entries k None (Some tt) (λ x. refl);
  metas = λ f m. refl;
  named = λ p h. h;
  disjoint = λ a r n j h i. loses k (Some tt) r a (λ j x y. n j y x) j i h;
}

pub parent-sound : (q : ℕ) → Sound (setting_parent q) (parenting q)
parent-sound q = record {
  parents = λ p q. refl;
  entries = λ a r es. refl;
  metas = λ f m. refl;
  named = λ p h. refl;
  disjoint = λ a r n. n;
}

-- ---- update

given-or : {A : Type 0} (u f : Option A) (x : A) → given (or_else u f) x ≡ given u (given f x)
given-or None f x = refl
given-or (Some a) f x = refl

cut_or : (u f : Option ℕ) → cut (or_else u f) ≡ or_else (cut u) (cut f)
cut_or None f = refl
cut_or (Some a) f = refl

alter-merged : (c d : Changes) (vs : Attributes) → alter_all (merge by_bytes (λ k x o. Some x) c d) vs ≡ alter_all c (alter_all d vs)
alter-merged c d vs = map-ext by_bytes _ _ (λ k. simp get-merge (go (get by_bytes k c) (get by_bytes k d) (get by_bytes k vs)))
  where
    go : (x y : Option (Option Text)) (z : Option Text) → meet (λ i o. i) (meet (λ x o. Some x) x y) z ≡ meet (λ i o. i) x (meet (λ i o. i) y z)
    go None y z = refl
    go (Some x) y z = refl

changes-or : (u f : Option Changes) (vs : Attributes) → meet alter_all (merge_changes u f) vs ≡ meet alter_all u (meet alter_all f vs)
changes-or None f vs = refl
changes-or (Some c) None vs = refl
changes-or (Some c) (Some d) vs = alter-merged c d vs

meta-or : (u f : Fields) (m : Meta) → on_meta (merge_fields u f) m ≡ on_meta u (on_meta f m)
meta-or u f m = simp (cut_or, given-or, changes-or)

mode-or : (u f : Option ℕ) → LinkMode u → LinkMode f → LinkMode (or_else u f)
mode-or u f h k = rw h k

tidy-update : (u f : Fields) (c : Change) → ModeFor u (Some (changed_kind c)) → Tidy c f → Tidy c (merge_fields u f)
tidy-update u f (directory p a r) m t = t
tidy-update u f (file n) m t = tt
tidy-update u f (symlink x) m t = mode-or u.mode f.mode m t
tidy-update u f (special s d) m t = tt

tidy-bare : (u : Fields) (k : Kind) → ModeFor u (Some k) → Tidy (bare_change k) u
tidy-bare u directory m = none-added (empty by_bytes)
tidy-bare u file m = tt
tidy-bare u symlink m = m
tidy-bare u (special s) m = tt

kind-bare : (k : Kind) → changed_kind (bare_change k) ≡ k
kind-bare directory = refl
kind-bare file = refl
kind-bare symlink = refl
kind-bare (special s) = refl

bare-body : (b : Body) → on_body (bare_change (kind_of b)) b ≡ b
bare-body (directory q es) = rw empty-entries
bare-body (file n) = refl
bare-body (symlink t) = refl
bare-body (special d) = refl

pub update-acts : (initial : Initial) (u : Fields) (o : Option Record) (n : Option Node) → Right? o (base_type n) → ModeFor u (base_type (meet (fold_record initial) o n))
    → Acts initial (updated u (base_type n)) (map_if (update_node u)) o n
update-acts initial u None None h m = record { right = tt; step = refl }
update-acts initial u None (Some n) h m =
    let k = kind-bare (kind_of n.body) in
    record {
      right = (k, tidy-bare u (kind_of n.body) m);
      step = rw (fold_same initial (record { fields = u; change = bare_change (kind_of n.body) }) n k, bare-body);
    }
update-acts initial u (Some tombstone) n h m = record { right = tt; step = rw fold-tombstone }
update-acts initial u (Some (delta d)) n h m =
    let z = type-law initial (delta d) n h in
    let right : Right (delta (record { fields = merge_fields u d.fields; change = d.change })) (base_type n)
    = (h.0, tidy-update u d.fields d.change (rw z m) h.1) in
    let g = ground initial d.change n in
    record {
      right = right;
      step = rw (fold-right initial d n h) (fold-right initial _ n right ∙ ap Some (λ i. record { meta = meta-or u d.fields g.meta i; body = on_body d.change g.body }));
    }
