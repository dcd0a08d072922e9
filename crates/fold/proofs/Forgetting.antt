-- What merged lists come to, with the starts of their names forgotten.
-- Assumes nothing.
use Rattle.std.specs.Prelude.{None, Option, Some}
use mathlib.Core.Path.{◌≡◌, refl, ap, ◌∙◌}
use Prim.Native.Nat.{ℕ}
use Rattle.wire.specs.Orders.{by_bytes}
use Rattle.wire.specs.Maps.{Map, meet, merge, empty, get, map-ext, get-empty, get-merge}
use Rattle.image.specs.Meaning.{Text, Entries, Attributes, Changes, Names}
use Rattle.image.specs.Under.{UnderName, under}
use Rattle.image.specs.declared.name.Under.{Under}
use Rattle.image.specs.declared.name.Under.TheVariants as U
use Rattle.rules.specs.Changes.{map_if}
use Rattle.rules.specs.Fold.{add_all, remove_all, alter_all}
use Rattle.rules.specs.Starts.{Started, starts}
use Rattle.rules.proofs.MapValues.{map_values, get-map, map-empty}
use Rattle.rules.proofs.Forgotten.{forgotten, starts-forgotten}
use Rattle.merge.specs.Pile.{itself}
use Rattle.merge.specs.Sources.{Given, decided}
use Rattle.merge.proofs.Lists.{source_of}
use Rattle.fold.specs.Lists.{valued, inoded}

-- a source over what is beneath
module _ (u : Under) {B : Type 0} (f : ℕ × Given → B) (g : Text → UnderName u → Option B → Option B)
    (h : (s : ℕ) (v : UnderName u) (k : Text) (o : Option B) → map_if f (decided u (s, v)) ≡ g k v o) where
  forgets : (q : ℕ) (m : Map by_bytes (UnderName u)) (x : Started Given)
      → map_values by_bytes f (merge by_bytes (itself by_bytes) (source_of u q m) x) ≡ merge by_bytes g m (map_values by_bytes f x)
  forgets q m x =
      map-ext by_bytes (map_values by_bytes f (merge by_bytes (itself by_bytes) (source_of u q m) x))
      (merge by_bytes g (forgotten (starts (under u) q m)) (map_values by_bytes f x)) (λ k.
      simp (get-merge, get-map) (go k (get by_bytes k (starts (under u) q m))))
      ∙ ap (λ (n : Map by_bytes (UnderName u)). merge by_bytes g n (map_values by_bytes f x)) (starts-forgotten (under u) q m)
    where
      go : (k : Text) (o : Option (ℕ × UnderName u))
          → map_if f (meet (itself by_bytes k) (map_if (decided u) o) (get by_bytes k x)) ≡ meet (g k) (map_if (λ y. y.1) o) (map_if f (get by_bytes k x))
      go k None = refl
      go k (Some a) = h a.0 a.1 k (map_if f (get by_bytes k x))

  -- the lowest source
  forgets-alone : (q : ℕ) (m : Map by_bytes (UnderName u))
      → map_values by_bytes f (merge by_bytes (itself by_bytes) (source_of u q m) (empty by_bytes)) ≡ merge by_bytes g m (empty by_bytes)
  forgets-alone q m = forgets q m (empty by_bytes) ∙ ap (λ (x : Map by_bytes B). merge by_bytes g m x) (map-empty by_bytes f)

-- all of a map over nothing
over_nothing : {A : Type 0} (m : Map by_bytes A) → merge by_bytes (λ name a old. Some a) m (empty by_bytes) ≡ m
over_nothing {A} m = map-ext by_bytes (merge by_bytes (λ name a old. Some a) m (empty by_bytes)) m (λ k. simp (get-merge, get-empty) (go (get by_bytes k m)))
  where
    go : (o : Option A) → meet (λ a old. Some a) o None ≡ o
    go None = refl
    go (Some a) = refl

-- ---- attributes

change-says : (s : ℕ) (v : Option Text) (k : Text) (o : Option Text) → map_if valued (decided U.Change (s, v)) ≡ v
change-says s None k o = refl
change-says s (Some t) k o = refl

pub changes-forget : (q : ℕ) (cs : Changes) (x : Started Given)
    → map_values by_bytes valued (merge by_bytes (itself by_bytes) (source_of U.Change q cs) x) ≡ alter_all cs (map_values by_bytes valued x)
changes-forget q cs x = forgets U.Change valued (λ name change old. change) change-says q cs x

pub values-forget : (q : ℕ) (vs : Attributes) → map_values by_bytes valued (merge by_bytes (itself by_bytes) (source_of U.Value q vs) (empty by_bytes)) ≡ vs
values-forget q vs = forgets-alone U.Value valued (λ name v old. Some v) (λ s v k o. refl) q vs ∙ over_nothing vs

-- ---- entries

pub added-forget : (q : ℕ) (es : Entries) (x : Started Given)
    → map_values by_bytes inoded (merge by_bytes (itself by_bytes) (source_of U.Inode q es) x) ≡ add_all es (map_values by_bytes inoded x)
added-forget q es x = forgets U.Inode inoded (λ name inode old. Some inode) (λ s v k o. refl) q es x

pub removed-forget : (q : ℕ) (ns : Names) (x : Started Given)
    → map_values by_bytes inoded (merge by_bytes (itself by_bytes) (source_of U.Nothing q ns) x) ≡ remove_all ns (map_values by_bytes inoded x)
removed-forget q ns x = forgets U.Nothing inoded (λ name u old. None) (λ s v k o. refl) q ns x

pub entries-forget : (q : ℕ) (es : Entries) → map_values by_bytes inoded (merge by_bytes (itself by_bytes) (source_of U.Inode q es) (empty by_bytes)) ≡ es
entries-forget q es = forgets-alone U.Inode inoded (λ name inode old. Some inode) (λ s v k o. refl) q es ∙ over_nothing es
