-- The child lookup, layer by layer.
-- Assumes nothing.
use Rattle.std.specs.Prelude.{Result, Ok, Err, IsOk, None, Option, Some}
use mathlib.Core.Path.{◌≡◌, refl, sym, ap, ◌∙◌, subst}
use mathlib.Core.List.{List}
use Prim.Native.Nat.{ℕ, zero, suc, ◌+◌, ◌-◌, ◌≤◌, ◌<◌}
use native.Mathlib.Omega.{arith}
use Rattle.wire.specs.declared.fault.Fault.{Fault}
use Rattle.std.specs.declared.cmp.Ordering.TheVariants.{Less, Equal, Greater}
use Rattle.wire.specs.Number.{edge, number_read}
use Rattle.wire.specs.Orders.{by_bytes}
use Rattle.wire.specs.Maps.{get, meet}
use Rattle.image.specs.declared.name.Under.TheVariants as U
use Rattle.image.specs.Meaning.{Text}
use Rattle.image.specs.Under.{under}
use Rattle.rules.specs.Reads.{Read, child, step_child, body_child}
use Rattle.wire.specs.declared.part.Part.{Part}
use Rattle.deltas.specs.declared.delta.DirectoryDelta.{DirectoryDelta}
use Rattle.deltas.specs.declared.delta.NodeDelta.{NodeDelta}
use Rattle.deltas.specs.declared.delta.NodeDelta.TheVariants as D
use Rattle.deltas.specs.declared.delta.EntryDelta.{EntryDelta}
use Rattle.deltas.specs.declared.delta.EntryDelta.TheVariants as E
use Rattle.nodes.specs.declared.node.Node as M
use Rattle.nodes.specs.declared.node.NodeKind.{NodeKind}
use Rattle.nodes.specs.declared.node.NodeKind.TheVariants as K
use Rattle.wire.specs.Reading.{Reads, meant}
use Rattle.nodes.specs.Listed.{list_at, Listed}
use Rattle.nodes.specs.Nodes.{EntriesListed, body_meant, entries_in}
use Rattle.deltas.specs.Deltas.{entry_meant}
use Rattle.image.specs.declared.name.Under.{Under}
use Rattle.image.specs.Places.{Holds}
use Rattle.lookup.specs.declared.list.NameList.{NameList}
use Rattle.lookup.specs.declared.rows.NameRows.{NameRows}
use Rattle.image.specs.declared.name.RowRead.{RowRead}
use Rattle.stack.specs.Stacks.{BaseIs}
use Rattle.stack.specs.InStack.{RecordIn, BaseIn, shown_lowest, shown_in}
use Rattle.stack.specs.declared.stack.Stack.{Stack}
use Rattle.lookup.specs.Lists.{IsList}
use Rattle.lookup.specs.Search.{row_name, ListRows, Steps, IsListOf}
use Rattle.lookup.specs.Children.{has, body_has, record_has, child_under, Entries, Shows, EntriesAt, BaseEntries}
use Rattle.stack.proofs.Walks.{shown-more, shown-base}
use Rattle.lookup.proofs.Searching.{is-list, held_none, held-some, read-ok, read_same}
use Rattle.lookup.proofs.Searching.{Sought, step-read, sought-start, sought-on, sought-here, sought-past, sought-end}

-- ---- the entries of a layer

-- a list of entries stands in the stack's image
pub entries-there : (s : Stack) (l : NameList) → Entries s l → IsList s.img.now U.Inode l.place
entries-there s l e = subst (λ (u : Under). IsList s.img.now u l.place) e.sort (subst (λ (m : List ℕ). IsList m l.what l.place) e.image l.listed)

entry-rows : {img : List ℕ} (l : NameList) (k : Text) {r : NameRows} → l.img.now ≡ img → l.what ≡ U.Inode → ListRows l r
    → Sought img U.Inode k (get by_bytes k (list_at img U.Inode l.place)) r
entry-rows {img} l k {r} e d h =
    let w = subst (λ (m : List ℕ). Sought m l.what k (get by_bytes k (list_at m l.what l.place)) r) e (sought-start l k h) in
    subst (λ (u : Under). Sought img u k (get by_bytes k (list_at img u l.place)) r) d w

under-is : (s : Stack) (name : Text) (n : ℕ) → 0 < n → child_under s name n ≡ shown_lowest (child name) s (n - 1)
under-is s name zero h = absurd (omega arith)
under-is s name (suc n) h = let y : suc n - 1 ≡ n = omega arith in rw y

alone : (o : Option ℕ) → o ≡ meet (λ inode x. Some inode) o None
alone None = refl
alone (Some i) = refl

entries-listed : (img : List ℕ) (p : Option ℕ) (n : M.Node) → BaseIs img p (Some n) → (q : ℕ) × EntriesListed img n.kind q
entries-listed img None n b = absurd b
entries-listed img (Some p) n b = (b.end, b.reads.entries)

kind-of : (k : NodeKind) {es : Part} → entries_in k ≡ Some es → (parent : ℕ) × (k ≡ K.Directory parent es)
kind-of (K.Directory parent x) h = (parent, cc h)
kind-of (K.File size) h = cc
kind-of (K.Symlink target) h = cc
kind-of K.Fifo h = cc
kind-of (K.CharDevice rdev) h = cc
kind-of (K.BlockDevice rdev) h = cc
kind-of K.Socket h = cc

module _ (s : Stack) where
  -- "Last, a base directory's entries."
  module _ (n : M.Node) (b : BaseIn s (Some n)) where
    module _ {parent : ℕ} {es : Part} (e : n.kind ≡ K.Directory parent es) where
      pub base-whole : (q : ℕ) × Listed s.img.now U.Inode es q
      base-whole = let g = entries-listed s.img.now s.places.base n b in (g.0, subst (λ (k : NodeKind). EntriesListed s.img.now k g.0) e g.1)

      pub base-directory : (name : Text) → Shows s name 0 es × (shown_lowest (has name) s 0 ≡ Some (get by_bytes name (list_at s.img.now U.Inode es)))
      base-directory name = (
        shown-base (child name) s.img.now s.places (Some n) b ∙ rw e (alone (get by_bytes name (list_at s.img.now U.Inode es))),
        shown-base (has name) s.img.now s.places (Some n) b ∙ rw e refl,
      )

    pub base-other : entries_in n.kind ≡ None → BaseEntries s None
    base-other h name =
        (shown-base (child name) s.img.now s.places (Some n) b ∙ (go n.kind h).0, shown-base (has name) s.img.now s.places (Some n) b ∙ (go n.kind h).1)
      where
        go : (k : NodeKind) → entries_in k ≡ None → (body_child name (body_meant s.img.now k) ≡ None) × (body_has name (body_meant s.img.now k) ≡ None)
        go (K.Directory parent es) h = cc
        go (K.File size) h = (refl, refl)
        go (K.Symlink target) h = (refl, refl)
        go K.Fifo h = (refl, refl)
        go (K.CharDevice rdev) h = (refl, refl)
        go (K.BlockDevice rdev) h = (refl, refl)
        go K.Socket h = (refl, refl)

    pub base_entries : {es : Part} → entries_in n.kind ≡ Some es → (l : NameList) → IsListOf s.img.now U.Inode es l → BaseEntries s (Some l)
    base_entries {es} h l g name =
        let k = kind-of n.kind h in
        let whole = base-whole k.1 in
        let w : Entries s l = record { image = g.image; sort = g.sort; end = whole.0; whole = rw g.at whole.1 } in
        let d = base-directory k.1 name in
        (w, rw g.at d.0, rw g.at d.1)

  pub base-none : BaseIn s None → BaseEntries s None
  base-none b name = (shown-base (child name) s.img.now s.places None b, shown-base (has name) s.img.now s.places None b)

  module _ {layer : ℕ} {e : EntryDelta} (l : layer ≤ s.places.count) (z : layer ≡ 0 → ⊥) (g : RecordIn s (layer - 1) e) (name : Text) where
    stands : {X : Type 0} (R : Read X) → shown_lowest R s layer ≡ R.step (entry_meant s.img.now e) (shown_lowest R s (layer - 1))
    stands R = let y : layer ≡ layer - 1 + 1 = omega arith in ap (λ (n : ℕ). shown_lowest R s n) y ∙ shown-more s.stacked R (layer - 1) (omega (arith, l)) g

    child-stands : shown_lowest (child name) s layer ≡ step_child name (entry_meant s.img.now e) (child_under s name layer)
    child-stands = stands (child name) ∙ ap (step_child name (entry_meant s.img.now e)) (sym (under-is s name layer (omega arith)))

    -- "Tombstone: none.", "Other kind: none."
    pub at-other : step_child name (entry_meant s.img.now e) (child_under s name layer) ≡ None → record_has name (entry_meant s.img.now e) ≡ None
        → EntriesAt s name layer None
    at-other h k = (child-stands ∙ h, stands (has name) ∙ k)

    -- "Directory delta: removed name, none; else added name, its inode; else go on below."
    module _ {n : NodeDelta} {d : DirectoryDelta} (en : e ≡ E.Node n) (ed : n ≡ D.Directory d) where
      pub lists : Listed s.img.now U.Inode d.added d.removed.start × Listed s.img.now U.Nothing d.removed g.end
      lists = rw (en, ed) at g.reads.lists

      pub removed-listed : IsList s.img.now U.Nothing d.removed
      removed-listed = is-list lists.1

      pub added-listed : IsList s.img.now U.Inode d.added
      added-listed = is-list lists.0

      pub at-removed : {place : Option ℕ} {p : ℕ} → Holds s.img.now (under U.Nothing).read place (get by_bytes name (list_at s.img.now U.Nothing d.removed))
          → place ≡ Some p → EntriesAt s name layer None
      at-removed {p = p} f y =
          let img = s.img.now in
          let o = held-some img (under U.Nothing).read p (get by_bytes name (list_at img U.Nothing d.removed)) (rw y at f) in
          (child-stands ∙ rw (en, ed, o.2), stands (has name) ∙ rw (en, ed, o.2))

      pub at_added : {place : Option ℕ} → Holds s.img.now (under U.Nothing).read place (get by_bytes name (list_at s.img.now U.Nothing d.removed))
          → place ≡ None → {l : NameList} → IsListOf s.img.now U.Inode d.added l → EntriesAt s name layer (Some l)
      at_added f y {l} g =
          let img = s.img.now in
          let h = held_none img (under U.Nothing).read (get by_bytes name (list_at img U.Nothing d.removed)) (rw y at f) in
          let w : Entries s l = record { image = g.image; sort = g.sort; end = d.removed.start; whole = rw g.at lists.0 } in
          (w, child-stands ∙ rw (en, ed, h, g.at), stands (has name) ∙ rw (en, ed, h, g.at))

-- ---- the walk

-- The layers above this one name no child: the answer is that of this one and those below.
pub record Above (s : Stack) (name : Text) (found : Option ℕ) (layer : ℕ) : Type 0 where
  pub none_yet : found ≡ None
  pub low : layer ≤ s.places.count
  pub same : shown_in (child name) s ≡ shown_lowest (child name) s layer

-- Nor does this one.
pub record Passed (s : Stack) (name : Text) (found : Option ℕ) (layer : ℕ) : Type 0 where
  pub none_yet : found ≡ None
  pub low : layer ≤ s.places.count
  pub same : shown_in (child name) s ≡ child_under s name layer

-- The rows of a layer that were passed neither: it is that of the rows left, or of the layers below.
pub record Within (s : Stack) (name : Text) (found : Option ℕ) (layer : ℕ) (rows : NameRows) : Type 0 where
  pub none_yet : found ≡ None
  pub low : layer ≤ s.places.count
  pub has : Option ℕ
  pub sought : Sought s.img.now U.Inode name has rows
  pub same : shown_in (child name) s ≡ meet (λ inode x. Some inode) has (child_under s name layer)

module _ {s : Stack} {name : Text} where
  module _ {found : Option ℕ} {layer : ℕ} (w : Above s name found layer) where
    pub above-into : (l : NameList) {r : NameRows} → EntriesAt s name layer (Some l) → ListRows l r → Within s name found layer r
    above-into l {r} e h = record {
      none_yet = w.none_yet;
      low = w.low;
      has = get by_bytes name (list_at s.img.now U.Inode l.place);
      sought = entry-rows l name e.0.image e.0.sort h;
      same = w.same ∙ e.1;
    }

  module _ {found : Option ℕ} {layer : ℕ} {rows : NameRows} (w : Within s name found layer rows) where
    below : w.has ≡ None → Passed s name found layer
    below e = record { none_yet = w.none_yet; low = w.low; same = rw e at w.same }

    pub within_end : rows.rows.count ≡ 0 → Passed s name found layer
    within_end h = below (sought-end w.sought h)

    module _ {place : ℕ} {r : RowRead} {after : NameRows} (g : Steps rows place r after) where
      pub within_on : by_bytes.cmp (row_name s.img.now r) name ≡ Less → Within s name found layer after
      within_on e = record { none_yet = w.none_yet; low = w.low; has = w.has; sought = sought-on w.sought g e; same = w.same }

      pub within-past : by_bytes.cmp (row_name s.img.now r) name ≡ Greater → Passed s name found layer
      within-past e = below (sought-past w.sought g e)

      -- the inode under the name is the child
      pub within-here : by_bytes.cmp (row_name s.img.now r) name ≡ Equal → {o : Result (ℕ × ℕ) Fault} {n m : ℕ}
          → Reads s.img.now (number_read edge) r.under (meant (λ n. n) o) → o ≡ Ok (n, m) → Some n ≡ shown_in (child name) s
      within-here e a d = rw (read_same (step-read w.sought g).held a (ap (meant (λ n. n)) d)) (sym (rw (sought-here w.sought g e) at w.same))

      -- which is read
      pub within-read : (o : Result (ℕ × ℕ) Fault) → Reads s.img.now (number_read edge) r.under (meant (λ n. n) o) → IsOk o
      within-read o a = go o (read-ok (step-read w.sought g).held a)
        where
          go : (o : Result (ℕ × ℕ) Fault) → IsOk (meant (λ n. n) o) → IsOk o
          go (Ok x) h = refl
          go (Err f) h = h

  module _ {found : Option ℕ} {layer : ℕ} (w : Passed s name found layer) where
    pub passed-on : 0 < layer → Above s name found (layer - 1)
    passed-on h = record { none_yet = w.none_yet; low = omega (arith, w.low); same = w.same ∙ under-is s name layer h }

    pub passed-last : layer ≤ 0 → found ≡ shown_in (child name) s
    passed-last h = let z : layer ≡ 0 = omega arith in rw (w.none_yet, w.same, z)

pub ruleset layers = (at-removed, at_added)
