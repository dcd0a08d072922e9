-- What the lists of a stack come to is what its folded node has.
-- Assumes nothing.
use Rattle.std.specs.Prelude.{None, Option, Some}
use mathlib.Core.Path.{◌≡◌, refl, sym, ap, ◌∙◌}
use mathlib.Core.Bool.{Bool, true, false}
use mathlib.Core.List.{List, [], ◌∷◌, ◌++◌}
use Prim.Native.Nat.{ℕ}
use native.Mathlib.Omega.{arith}
use Rattle.wire.specs.Orders.{by_bytes}
use Rattle.wire.specs.Maps.{meet, merge, empty}
use Rattle.image.specs.Meaning as M
use Rattle.image.specs.Meaning.{Kind, Entries, Body, Meta, Changes, Fields, Change, Record, directory, file, symlink}
use Rattle.image.specs.Meaning.{special, pipe, character, block, socket, tombstone, delta, kind_of, changed_kind}
use Rattle.image.specs.declared.name.Under.TheVariants as U
use Rattle.rules.specs.Initial.{usual}
use Rattle.rules.specs.Fold.{add_all, alter_all, on_body, applied, first_body, first_node, same_kind, fold_record}
use Rattle.rules.specs.Starts.{Placed, attributes_at, entries_at, changes_at, added_at}
use Rattle.rules.specs.PlacedStacks.{unplaced, unplaced_node}
use Rattle.rules.proofs.MapValues.{map_values, map-empty}
use Rattle.rules.proofs.Folded.{folded}
use Rattle.rules.proofs.Laws.{same_kind_lem, kind-on, kind-first}
use Rattle.image.specs.FileTypes.{kind_meant}
use Rattle.image.specs.declared.kind.FileType.{FileType}
use Rattle.merge.specs.Pile.{merged, itself}
use Rattle.merge.proofs.Lists.{Deciding, source_of}
use Rattle.gather.specs.Gathers.{removed_at, body_pile, node_pile, change_pile, alter_pile, delta_pile, record_pile, pile_of}
use Rattle.gather.specs.declared.gather.Listing.{Listing}
use Rattle.gather.specs.declared.gather.Listing.TheVariants as L
use Rattle.apply.specs.Folded.{on_entries}
use Rattle.fold.specs.Lists.{valued, inoded, merges}
use Rattle.fold.proofs.Forgetting.{changes-forget, values-forget, added-forget, removed-forget, entries-forget}

-- ---- one delta

module _ (p : ℕ) (f : Fields) where
  alter-fold : (o : Option Changes) (below : List Deciding)
      → map_values by_bytes valued (merges (alter_pile p f o ++ below)) ≡ meet alter_all o (map_values by_bytes valued (merges below))
  unfolding merged
  alter-fold None below = refl
  alter-fold (Some cs) below = changes-forget (changes_at p f cs) cs (merges below)

  change-fold : (c : Change) (below : List Deciding)
      → map_values by_bytes inoded (merges (change_pile p f c ++ below)) ≡ on_entries c (map_values by_bytes inoded (merges below))
  unfolding merged
  change-fold (directory parent added removed) below =
      let under = source_of U.Nothing (removed_at p f parent added) removed in
      added-forget (added_at p f parent) added (merge by_bytes (itself by_bytes) under (merges below))
      ∙ ap (add_all added) (removed-forget (removed_at p f parent added) removed (merges below))
  change-fold (file n) below = refl
  change-fold (symlink t) below = refl
  change-fold (special s device) below = refl

-- ---- no node: nothing is listed

gone : {A : Type 0} {m : M.Node} → None ≡ Some m → A
gone e = absurd (let z : ◌≡◌ {A = ℕ} 0 1 = cc in omega arith)

there : {A : Type 0} {m : M.Node} → Some m ≡ None → A
there e = absurd (let z : ◌≡◌ {A = ℕ} 0 1 = cc in omega arith)

no-base : (l : Listing) → node_pile l None ≡ []
no-base L.Entries = refl
no-base L.Attributes = refl

no_node : (l : Listing) (of : Option FileType) (rs : List (Placed Record)) (b : Option (Placed M.Node)) → folded usual (unplaced rs) (unplaced_node b) ≡ None
    → pile_of l of rs b ≡ []
unfolding folded fold_record
no_node l of [] None h = no-base l
no_node l of [] (Some n) h = there h
no_node l of (r ∷ rs) b h = go r.held (folded usual (unplaced rs) (unplaced_node b)) h
  where
    go : (x : Record) (o : Option M.Node) → fold_record usual x o ≡ None → record_pile l of r.place x (pile_of l of rs b) ≡ []
    go tombstone o e = refl
    go (delta d) None e = there e
    go (delta d) (Some n) e = there e

-- ---- attributes

pub attributes-fold : (t : FileType) (rs : List (Placed Record)) (b : Option (Placed M.Node)) (m : M.Node)
    → folded usual (unplaced rs) (unplaced_node b) ≡ Some m → kind_meant t ≡ kind_of m.body
    → map_values by_bytes valued (merges (pile_of L.Attributes (Some t) rs b)) ≡ m.meta.attributes
unfolding folded fold_record merged
attributes-fold t [] None m h k = gone h
attributes-fold t [] (Some n) m h k =
    let z : n.held ≡ m = cc in
    values-forget (attributes_at n.place n.held.meta) n.held.meta.attributes ∙ ap (λ (x : M.Node). x.meta.attributes) z
attributes-fold t (r ∷ rs) b m h k = go r.held (folded usual (unplaced rs) (unplaced_node b)) refl h (attributes-fold t rs b)
  where
    below : List Deciding
    below = pile_of L.Attributes (Some t) rs b

    go : (x : Record) (o : Option M.Node) → folded usual (unplaced rs) (unplaced_node b) ≡ o → fold_record usual x o ≡ Some m
        → ((n : M.Node) → folded usual (unplaced rs) (unplaced_node b) ≡ Some n → kind_meant t ≡ kind_of n.body
        → map_values by_bytes valued (merges below) ≡ n.meta.attributes)
        → map_values by_bytes valued (merges (record_pile L.Attributes (Some t) r.place x below)) ≡ m.meta.attributes
    go tombstone o e h ih = gone h
    go (delta d) None e h ih =
        let z : applied d (first_node usual d.change) ≡ m = cc in
        let kind : kind_meant t ≡ changed_kind d.change = k ∙ ap (λ (x : M.Node). kind_of x.body) (sym z) ∙ kind-on d.change (first_body d.change)
        ∙ kind-first d.change in
        let none = no_node L.Attributes (Some t) rs b e in
        rw (kind, same_kind_lem _ (changed_kind d.change) refl, none, alter-fold r.place d.fields d.fields.attributes [], map-empty by_bytes valued)
        (ap (λ (x : M.Node). x.meta.attributes) z)
    go (delta d) (Some n) e h ih = test (same_kind (changed_kind d.change) (kind_of n.body)) refl (ih n e)
      where
        test : (q : Bool) → same_kind (changed_kind d.change) (kind_of n.body) ≡ q
            → (kind_meant t ≡ kind_of n.body → map_values by_bytes valued (merges below) ≡ n.meta.attributes)
            → map_values by_bytes valued (merges (delta_pile L.Attributes (Some t) r.place d ++ below)) ≡ m.meta.attributes
        test true q ih =
            let z : applied d n ≡ m = let y = rw q at h in cc in
            let kind : kind_meant t ≡ kind_of n.body = k ∙ ap (λ (x : M.Node). kind_of x.body) (sym z) ∙ kind-on d.change n.body in
            rw (kind, q, alter-fold r.place d.fields d.fields.attributes below, ih kind) (ap (λ (x : M.Node). x.meta.attributes) z)
        test false q ih =
            let z : n ≡ m = let y = rw q at h in cc in
            let kind : kind_meant t ≡ kind_of n.body = k ∙ ap (λ (x : M.Node). kind_of x.body) (sym z) in
            rw (kind, q, ih kind) (ap (λ (x : M.Node). x.meta.attributes) z)

-- ---- entries

-- the entries of a directory; no other node has any
abbrev pub entries_in : Body → Entries
entries_in (directory q es) = es
entries_in (file size) = empty by_bytes
entries_in (symlink target) = empty by_bytes
entries_in (special device) = empty by_bytes

body-fold : (p : ℕ) (m : Meta) (b : Body) → map_values by_bytes inoded (merges (body_pile p m b)) ≡ entries_in b
unfolding merged
body-fold p m (directory q es) = entries-forget (entries_at p m q) es
body-fold p m (file size) = map-empty by_bytes inoded
body-fold p m (symlink target) = map-empty by_bytes inoded
body-fold p m (special device) = map-empty by_bytes inoded

first-entries : (c : Change) → on_entries c (empty by_bytes) ≡ entries_in (on_body c (first_body c))
first-entries (directory p a r) = refl
first-entries (file n) = refl
first-entries (symlink t) = refl
first-entries (special s device) = refl

-- a delta of the directory's kind, and one of another
on-entries : (c : Change) (b : Body) → same_kind (changed_kind c) (kind_of b) ≡ true → kind_of b ≡ directory
    → on_entries c (entries_in b) ≡ entries_in (on_body c b)
unfolding same_kind
on-entries (directory p a r) (directory q es) s k = refl
on-entries (file n) (directory q es) s k = absurd (let z : ◌≡◌ {A = ℕ} 0 1 = cc in omega arith)
on-entries (symlink t) (directory q es) s k = absurd (let z : ◌≡◌ {A = ℕ} 0 1 = cc in omega arith)
on-entries (special x device) (directory q es) s k = refl
on-entries c (file size) s k = absurd (let z : ◌≡◌ {A = ℕ} 0 1 = cc in omega arith)
on-entries c (symlink target) s k = absurd (let z : ◌≡◌ {A = ℕ} 0 1 = cc in omega arith)
on-entries c (special device) s k = absurd (let z : ◌≡◌ {A = ℕ} 0 1 = cc in omega arith)

other_entries : (c : Change) (b : Body) (es : Entries) → same_kind (changed_kind c) (kind_of b) ≡ false → kind_of b ≡ directory → on_entries c es ≡ es
unfolding same_kind
other_entries (directory p a r) b es s k = absurd (let y = rw k at s in let z : ◌≡◌ {A = ℕ} 0 1 = cc in omega arith)
other_entries (file n) b es s k = refl
other_entries (symlink t) b es s k = refl
other_entries (special x device) b es s k = refl

pub entries-fold : (of : Option FileType) (rs : List (Placed Record)) (b : Option (Placed M.Node)) (m : M.Node)
    → folded usual (unplaced rs) (unplaced_node b) ≡ Some m → kind_of m.body ≡ directory
    → map_values by_bytes inoded (merges (pile_of L.Entries of rs b)) ≡ entries_in m.body
unfolding folded fold_record merged
entries-fold of [] None m h k = gone h
entries-fold of [] (Some n) m h k =
    let z : n.held ≡ m = cc in
    body-fold n.place n.held.meta n.held.body ∙ ap (λ (x : M.Node). entries_in x.body) z
entries-fold of (r ∷ rs) b m h k = go r.held (folded usual (unplaced rs) (unplaced_node b)) refl h (entries-fold of rs b)
  where
    below : List Deciding
    below = pile_of L.Entries of rs b

    go : (x : Record) (o : Option M.Node) → folded usual (unplaced rs) (unplaced_node b) ≡ o → fold_record usual x o ≡ Some m
        → ((n : M.Node) → folded usual (unplaced rs) (unplaced_node b) ≡ Some n → kind_of n.body ≡ directory
        → map_values by_bytes inoded (merges below) ≡ entries_in n.body)
        → map_values by_bytes inoded (merges (record_pile L.Entries of r.place x below)) ≡ entries_in m.body
    go tombstone o e h ih = gone h
    go (delta d) None e h ih =
        let z : applied d (first_node usual d.change) ≡ m = cc in
        rw (no_node L.Entries of rs b e, change-fold r.place d.fields d.change [], map-empty by_bytes inoded)
        (first-entries d.change ∙ ap (λ (x : M.Node). entries_in x.body) z)
    go (delta d) (Some n) e h ih = test (same_kind (changed_kind d.change) (kind_of n.body)) refl (ih n e)
      where
        test : (q : Bool) → same_kind (changed_kind d.change) (kind_of n.body) ≡ q
            → (kind_of n.body ≡ directory → map_values by_bytes inoded (merges below) ≡ entries_in n.body)
            → map_values by_bytes inoded (merges (change_pile r.place d.fields d.change ++ below)) ≡ entries_in m.body
        test true q ih =
            let z : applied d n ≡ m = let y = rw q at h in cc in
            let kind : kind_of n.body ≡ directory = sym (kind-on d.change n.body) ∙ ap (λ (x : M.Node). kind_of x.body) z ∙ k in
            change-fold r.place d.fields d.change below ∙ ap (on_entries d.change) (ih kind) ∙ on-entries d.change n.body q kind
            ∙ ap (λ (x : M.Node). entries_in x.body) z
        test false q ih =
            let z : n ≡ m = let y = rw q at h in cc in
            let kind : kind_of n.body ≡ directory = ap (λ (x : M.Node). kind_of x.body) z ∙ k in
            change-fold r.place d.fields d.change below ∙ other_entries d.change n.body (map_values by_bytes inoded (merges below)) q kind ∙ ih kind
            ∙ ap (λ (x : M.Node). entries_in x.body) z
