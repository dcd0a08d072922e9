-- The lists of a stack's records and node are its sources.
-- Assumes nothing.
use Rattle.std.specs.Prelude.{None, Option, Some}
use mathlib.Core.Path.{◌≡◌, refl, sym, ap, ◌∙◌}
use mathlib.Core.List.{List, [], ◌++◌, append_assoc, append-nil}
use Prim.Native.Nat.{ℕ, ◌+◌, ◌-◌, ◌*◌, ◌≤◌, ◌<◌}
use native.Mathlib.Omega.{arith}
use lib.ListN.{length, drop, get_or, length-append, length-drop}
use mathlib.Core.Bool.{Bool, true, false, cond}
use Rattle.wire.specs.Parse.{got}
use Rattle.wire.specs.Number.{number-one}
use Rattle.image.specs.Meaning as M
use Rattle.image.specs.declared.name.Under.{Under}
use Rattle.image.specs.declared.name.Under.TheVariants as U
use Rattle.image.specs.NodeLayout.{node}
use Rattle.image.specs.RecordLayout.{fields, layer_record}
use Rattle.wire.specs.declared.part.Part.{Part}
use Rattle.deltas.specs.declared.delta.NodeDelta.{NodeDelta}
use Rattle.deltas.specs.declared.delta.NodeDelta.TheVariants as D
use Rattle.deltas.specs.declared.delta.EntryDelta.{EntryDelta}
use Rattle.deltas.specs.declared.delta.EntryDelta.TheVariants as E
use Rattle.nodes.specs.declared.node.Node.{Node}
use Rattle.nodes.specs.declared.node.NodeKind.{NodeKind}
use Rattle.nodes.specs.declared.node.NodeKind.TheVariants as K
use Rattle.nodes.specs.Listed.{by_name, list_at, list_of, Listed, ListedIf}
use Rattle.nodes.specs.Attrs.{fields_meant}
use Rattle.deltas.specs.Deltas.{attr_of, change_meant, delta_meant, ChangeListed}
use Rattle.nodes.specs.Nodes.{meta_meant, body_meant, node_meant, EntriesListed}
use Rattle.rules.specs.Starts.{entries_at, added_at}
use Rattle.rules.specs.PlacedStacks.{records_on, node_at}
use Rattle.rules.proofs.ListPlaces.{added-at, entries-at}
use Rattle.merge.specs.Pile.{rows_of}
use Rattle.merge.specs.Sources.{Decided, sources_of, list_rows}
use Rattle.merge.proofs.Lists.{pile_rows, rows_append, source_of, list-are}
use Rattle.stack.proofs.Walks.{records-more}
use Rattle.nodes.proofs.OneForm.{by_name-one}
use Rattle.image.specs.declared.kind.FileType.{FileType}
use Rattle.merge.specs.Merges.{lists_in, lists_if, in_order, rows_in, Pushes}
use Rattle.merge.specs.declared.sources.Lists.{Lists}
use Rattle.merge.specs.declared.merge.AtMostTwo.{AtMostTwo}
use Rattle.merge.proofs.Merging.{many-two, sources-more}
use Rattle.stack.specs.Stacks.{records_under, node_in, RecordIs, NodeIs, BaseIs}
use Rattle.stack.specs.InStack.{RecordIn, BaseIn}
use Rattle.stack.specs.declared.stack.Stack.{Stack}
use Rattle.gather.specs.Lists.{is_of, change_lists, delta_lists, entry_lists, node_lists, base_lists}
use Rattle.wire.specs.Lists.{Every}
use Rattle.merge.specs.Sources.{Short}
use Rattle.gather.proofs.Shorts.{every_append, delta-short, base_short}
use Rattle.gather.specs.Gathers.{body_pile, node_pile, change_pile, alter_pile, delta_pile, pile_of, GathersLists}
use Rattle.gather.specs.declared.gather.Listing.{Listing}
use Rattle.gather.specs.declared.gather.Listing.TheVariants as L

-- ---- what the lists of a record and of a node mean

-- bytes stand at one place
same_place : (img : List ℕ) (x y : ℕ) (w t : List ℕ) → 1 ≤ length w → drop x img ≡ w ++ t → drop y img ≡ w ++ t → x ≡ y
same_place img x y w t h d e =
    omega (arith, ap length d, ap length e, length-append w t, length-drop x img, length-drop y img)

module _ (img : List ℕ) (u : Under) {p : Part} {end : ℕ} (l : Listed img u p end) where
  list-bytes : drop p.start img ≡ (by_name u).write (list_at img u p) ++ drop end img
  list-bytes = ((by_name-one u).forth (drop p.start img) (list_at img u p) (drop end img) l.is).0

  list-long : 1 ≤ length ((by_name u).write (list_at img u p))
  list-long = simp length-append (omega (arith, number-one (length (list_at img u p).rows)))

  -- a list starts as far before its end as it is long
  list-start : p.start ≡ end - length ((by_name u).write (list_at img u p))
  list-start =
      omega (
        arith,
        ap length list-bytes,
        length-append ((by_name u).write (list_at img u p)) (drop end img),
        length-drop p.start img,
        length-drop end img,
        l.inside,
        list-long,
      )

  -- as a source it is that of the map
  list-source : {q : ℕ} → p.start ≡ q → list_rows img u p.start ≡ (source_of u q (list_at img u p)).rows
  list-source e = rw (← e) (list-are img u p.start (list_at img u p) (drop end img) l.is)

module _ (img : List ℕ) (p : ℕ) where
  change-lists : (n : NodeDelta) (end : ℕ) → layer_record.read (drop p img) ≡ got (M.delta (delta_meant img n)) (drop end img) → ChangeListed img n end
      → change_lists img n ≡ pile_rows (change_pile p (fields_meant img (attr_of n)) (change_meant img n))
  unfolding rows_of
  change-lists (D.Directory d) end r l =
      let added = list_at img U.Inode d.added in
      let w = (by_name U.Inode).write added in
      let v = (by_name U.Nothing).write (list_at img U.Nothing d.removed) in
      let a = added-at img p (fields_meant img d.attr_delta) d.parent added (list_at img U.Nothing d.removed) (drop end img) r in
      let b : drop d.added.start img ≡ w ++ (v ++ drop end img) = list-bytes img U.Inode l.0 ∙ ap (λ (t : List ℕ). w ++ t) (list-bytes img U.Nothing l.1) in
      let x = same_place img d.added.start (added_at p (fields_meant img d.attr_delta) d.parent) w (v ++ drop end img) (list-long img U.Inode l.0) b a in
      let y : d.removed.start ≡ d.added.start + length w =
      omega (
        arith,
        ap length (list-bytes img U.Inode l.0),
        length-append w (drop d.removed.start img),
        length-drop d.added.start img,
        length-drop d.removed.start img,
        l.0.inside,
        list-long img U.Inode l.0,
      ) in
      rw (list-source img U.Inode l.0 x, list-source img U.Nothing l.1 (y ∙ ap (λ (n : ℕ). n + length w) x))
  change-lists (D.File d) end r l = refl
  change-lists (D.Symlink d) end r l = refl
  change-lists (D.Fifo d) end r l = refl
  change-lists (D.CharDevice d) end r l = refl
  change-lists (D.BlockDevice d) end r l = refl
  change-lists (D.Socket d) end r l = refl

  alter-lists : (b : Bool) (o : Option Part) (f : M.Fields) → ListedIf img U.Change o (p + 1 + length (fields.write f))
      → cond b (lists_if img U.Change o) [] ≡ pile_rows (cond b (alter_pile p f (list_of img U.Change o)) [])
  unfolding rows_of
  alter-lists true (Some x) f l = rw (list-source img U.Change l (list-start img U.Change l))
  alter-lists true None f l = refl
  alter-lists false o f l = refl

  delta-lists : (l : Listing) (of : Option FileType) (n : NodeDelta) → RecordIs img p (E.Node n)
      → delta_lists img l of n ≡ pile_rows (delta_pile l of p (delta_meant img n))
  delta-lists L.Entries of n g = change-lists n g.end g.reads.reads.same g.reads.lists
  delta-lists L.Attributes of n g = alter-lists (is_of of (change_meant img n)) (attr_of n).xattrs (fields_meant img (attr_of n)) g.reads.attributes

  entry-lists : (k : NodeKind) (m : M.Meta) (end : ℕ) → node.read (drop p img) ≡ got (record { meta = m; body = body_meant img k }) (drop end img)
      → EntriesListed img k end
      → entry_lists img k ≡ pile_rows (body_pile p m (body_meant img k))
  unfolding rows_of
  entry-lists (K.Directory parent es) m end r l =
      let w = (by_name U.Inode).write (list_at img U.Inode es) in
      rw (list-source img U.Inode l
      (same_place img es.start (entries_at p m parent) w (drop end img) (list-long img U.Inode l) (list-bytes img U.Inode l)
      (entries-at img p m parent (list_at img U.Inode es) (drop end img) r)))
  entry-lists (K.File size) m end r l = refl
  entry-lists (K.Symlink t) m end r l = refl
  entry-lists K.Fifo m end r l = refl
  entry-lists (K.CharDevice rdev) m end r l = refl
  entry-lists (K.BlockDevice rdev) m end r l = refl
  entry-lists K.Socket m end r l = refl

  node_lists_lem : (l : Listing) (n : Node) → NodeIs img p n
      → node_lists img l n ≡ pile_rows (node_pile l (Some (record { place = p; held = node_meant img n })))
  unfolding rows_of
  node_lists_lem L.Entries n g = entry-lists n.kind (meta_meant img n.meta) g.end g.reads.reads.same g.reads.entries
  node_lists_lem L.Attributes n g = let a = g.reads.attributes in rw (list-source img U.Value a (list-start img U.Value a))

base-lists : (img : List ℕ) (l : Listing) (o : Option ℕ) (b : Option Node) → BaseIs img o b → base_lists img l b ≡ pile_rows (node_pile l (node_at img o))
unfolding rows_of
base-lists img L.Entries None None g = refl
base-lists img L.Attributes None None g = refl
base-lists img l None (Some n) g = absurd g
base-lists img l (Some p) None g = absurd g
base-lists img l (Some p) (Some n) g = rw g.reads.reads.same (node_lists_lem img p l n g)

-- ---- the walk from the top

-- what was gathered, with lists more
abbrev sources_so : List ℕ → Lists → List (List Decided)
sources_so img all = sources_of img (lists_in all)

module _ (s : Stack) (l : Listing) (of : Option FileType) where
  -- the sources of the lowest i records and of the node
  abbrev pile_under : ℕ → List (List Decided)
  pile_under i = pile_rows (pile_of l of (records_under s.img.now s.places i) (node_in s.img.now s.places))

  -- the sources of the records from i on are there; those below are left
  pub record Gathering (all : Lists) (i : ℕ) : Type 0 where
    pub low : i ≤ s.places.count
    pub few : all.count + 2 * i ≤ 2 * s.places.count
    pub are : sources_so s.img.now all ++ pile_under i ≡ pile_under s.places.count
    pub short : Every Short (sources_so s.img.now all)

module _ {s : Stack} {l : Listing} {of : Option FileType} {all : Lists} where
  pub gathering-end : {i : ℕ} → 0 < i → Gathering s l of all i → {e : EntryDelta} → RecordIn s (i - 1) e → e ≡ E.Tombstone → GathersLists s l of all
  unfolding rows_of
  gathering-end {i} k g {e} d t =
      let z : i ≡ i - 1 + 1 = omega arith in
      let w = rw z at g.are in
      record {
        are = sym (append-nil (sources_so s.img.now all)) ∙ rw (records-more s.stacked (i - 1) (omega (arith, g.low)) (rw t at d)) at w;
        short = g.short;
      }

  module _ (f : AtMostTwo) {r : Lists} (p : Pushes all (in_order f) r) where
    pub gathering-more : {i : ℕ} → 0 < i → Gathering s l of all i → {e : EntryDelta} → RecordIn s (i - 1) e → {n : NodeDelta} → e ≡ E.Node n
        → rows_in s.img.now f ≡ delta_lists s.img.now l of n → Gathering s l of r (i - 1)
    gathering-more {i} k g {e} d {n} t q =
        let img = s.img.now in
        let z : i ≡ i - 1 + 1 = omega arith in
        let w = rw z at g.are in
        let d = rw t at d in
        let m = rw (records-more s.stacked (i - 1) (omega (arith, g.low)) d) at w in
        let a : sources_so img r ≡ sources_so img all ++ delta_lists img l of n = sources-more img p ∙ rw q in
        record {
          low = omega (arith, g.low);
          few = omega (arith, g.few, p.more, many-two f);
          are = rw (a, append_assoc, delta-lists img (get_or s.places.deltas (i - 1) 0) l of n d, ← rows_append) m;
          short = rw a (every_append Short (sources_so img all) (delta_lists img l of n) g.short (delta-short img l of n));
        }

    pub gathering-all : {i : ℕ} → i ≤ 0 → Gathering s l of all i → (o : Option Node) → BaseIn s o → rows_in s.img.now f ≡ base_lists s.img.now l o
        → GathersLists s l of r
    unfolding records_on
    gathering-all {i} h g o b q =
        let img = s.img.now in
        let z : i ≡ 0 = omega arith in
        let e = rw z at g.are in
        let a : sources_so img r ≡ sources_so img all ++ base_lists img l o = sources-more img p ∙ rw q in
        record {
          are = a ∙ rw (base-lists img l s.places.base o b) e;
          short = rw a (every_append Short (sources_so img all) (base_lists img l o) g.short (base_short img l o));
        }

pub ruleset gathers = (gathering-end)
