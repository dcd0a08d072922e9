-- The lists of a stack, as sources from the top, give the names that lead somewhere.
-- Assumes nothing.
use Rattle.std.specs.Prelude.{None, Option, Some}
use mathlib.Core.Path.{◌≡◌, refl, sym, ap, ◌∙◌}
use mathlib.Core.List.{List, [], ◌∷◌, ◌++◌}
use Prim.Native.Nat.{ℕ, ◌+◌, ◌-◌, ◌*◌, ◌≤◌, ◌<◌}
use native.Mathlib.Omega.{arith}
use lib.ListN.{drop}
use Rattle.wire.specs.Orders.{by_bytes}
use Rattle.wire.specs.Maps.{Map, meet, get, get-merge, get-empty}
use Rattle.image.specs.Meaning.{Text, Entries, Names}
use Rattle.image.specs.declared.name.Under as UnderN
use Rattle.image.specs.declared.name.Under.TheVariants as U
use Rattle.image.specs.Under.{UnderName, under}
use Rattle.deltas.specs.declared.delta.DirectoryDelta.{DirectoryDelta}
use Rattle.deltas.specs.declared.delta.NodeDelta.{NodeDelta}
use Rattle.deltas.specs.declared.delta.NodeDelta.TheVariants as D
use Rattle.deltas.specs.declared.delta.EntryDelta.{EntryDelta}
use Rattle.deltas.specs.declared.delta.EntryDelta.TheVariants as E
use Rattle.deltas.specs.Deltas.{entry_meant}
use Rattle.nodes.specs.Listed.{list_at}
use Rattle.rules.specs.Reads.{child, step_child}
use Rattle.rules.specs.Changes.{map_if}
use Rattle.rules.specs.Starts.{starts}
use Rattle.rules.proofs.MapValues.{get-map}
use Rattle.rules.proofs.Forgotten.{starts-forgotten}
use Rattle.stack.specs.Stacks.{shown_under}
use Rattle.stack.specs.InStack.{RecordIn, shown_in}
use Rattle.stack.specs.declared.stack.Stack.{Stack}
use Rattle.lookup.specs.Children.{BaseEntries}
use Rattle.lookup.specs.declared.list.NameList.{NameList}
use Rattle.lookup.proofs.Searching.{list-is}
use Rattle.lookup.proofs.Children.{entries-there}
use Rattle.stack.proofs.Walks.{shown-more}
use Rattle.merge.specs.Pile.{rows_of, merged, itself}
use Rattle.merge.specs.Sources.{Given, decided, sources_of, list_rows, ListOf}
use Rattle.merge.specs.Merges.{lists_in, in_order, rows_in, Pushes}
use Rattle.merge.specs.declared.source.Source.{Source}
use Rattle.merge.specs.declared.sources.Lists.{Lists}
use Rattle.merge.specs.declared.merge.AtMostTwo.{AtMostTwo}
use Rattle.merge.proofs.Merging.{many-two, sources-more}
use Rattle.merge.proofs.Piles.{pile-merged}
use Rattle.merge.proofs.Lists.{Deciding, pile_rows, pile-ascends, rows_append, source_of, list-are}
use Rattle.keep.specs.Below.{inode_given, LeadsBy}

-- ---- what sources say of a name

-- the topmost source that has the name decides it; with none, x
abbrev lead_or : Text → List Deciding → Option ℕ → Option ℕ
lead_or k [] x = x
lead_or k (c ∷ cs) x = meet (λ o y. map_if inode_given o) (get by_bytes k c) (lead_or k cs x)

lead-append : (k : Text) (xs ys : List Deciding) (x : Option ℕ) → lead_or k (xs ++ ys) x ≡ lead_or k xs (lead_or k ys x)
lead-append k [] ys x = refl
lead-append k (c ∷ xs) ys x = ap (meet (λ o y. map_if inode_given o) (get by_bytes k c)) (lead-append k xs ys x)

lead-merged : (k : Text) (cs : List Deciding) → lead_or k cs None ≡ map_if inode_given (get by_bytes k (merged by_bytes (itself by_bytes) cs))
unfolding merged
lead-merged k [] = rw get-empty
lead-merged k (c ∷ cs) = rw (get-merge, lead-merged k cs) (go (get by_bytes k c))
  where
    go : (o : Option (Option (ℕ × Given)))
        → meet (λ o y. map_if inode_given o) o (map_if inode_given (get by_bytes k (merged by_bytes (itself by_bytes) cs)))
        ≡ map_if inode_given (meet (itself by_bytes k) o (get by_bytes k (merged by_bytes (itself by_bytes) cs)))
    go None = refl
    go (Some o) = refl

-- removed names, and added entries
get-start : (k : Text) (u : UnderN.Under) (q : ℕ) (m : Map by_bytes (UnderName u))
    → get by_bytes k m ≡ map_if (λ x. x.1) (get by_bytes k (starts (under u) q m))
get-start k u q m = ap (get by_bytes k) (sym (starts-forgotten (under u) q m)) ∙ get-map by_bytes (λ x. x.1) k (starts (under u) q m)

removed-lead : (k : Text) (q : ℕ) (m : Names) (x : Option ℕ) → lead_or k (source_of U.Nothing q m ∷ []) x ≡ meet (λ u y. None) (get by_bytes k m) x
removed-lead k q m x = rw (get-map, get-start k U.Nothing q m) (go (get by_bytes k (starts (under U.Nothing) q m)))
  where
    go : (o : Option (ℕ × Unit {0})) → meet (λ o y. map_if inode_given o) (map_if (decided U.Nothing) o) x ≡ meet (λ u y. None) (map_if (λ x. x.1) o) x
    go None = refl
    go (Some a) = refl

added-lead : (k : Text) (q : ℕ) (m : Entries) (x : Option ℕ) → lead_or k (source_of U.Inode q m ∷ []) x ≡ meet (λ i y. Some i) (get by_bytes k m) x
added-lead k q m x = rw (get-map, get-start k U.Inode q m) (go (get by_bytes k (starts (under U.Inode) q m)))
  where
    go : (o : Option (ℕ × ℕ)) → meet (λ o y. map_if inode_given o) (map_if (decided U.Inode) o) x ≡ meet (λ i y. Some i) (map_if (λ x. x.1) o) x
    go None = refl
    go (Some a) = refl

-- ---- the walk from the top

-- The sources of the records from i on are there; what they leave open is for the lowest i records and the node.
pub record Leading (s : Stack) (all : Lists) (i : ℕ) : Type 0 where
  pub low : i ≤ s.places.count
  pub few : all.count + 2 * i ≤ 2 * s.places.count
  pub maps : List Deciding
  pub are : sources_of s.img.now (lists_in all) ≡ pile_rows maps
  pub same : (k : Text) → shown_in (child k) s ≡ lead_or k maps (shown_under (child k) s.img.now s.places i)

leads-of : {s : Stack} {all : Lists} (maps : List Deciding) → sources_of s.img.now (lists_in all) ≡ pile_rows maps
    → ((k : Text) → shown_in (child k) s ≡ lead_or k maps None) → LeadsBy s all
unfolding get
leads-of maps e f = record {
  rise = rw e (pile-ascends maps);
  leads = λ k. rw (e, pile-merged by_bytes (itself by_bytes) maps) (sym (f k ∙ lead-merged k maps));
}

module _ {s : Stack} {all : Lists} where
  pub leading-start : all.count ≡ 0 → Leading s all s.places.count
  unfolding rows_of
  leading-start n = record { low = omega arith; few = omega (arith, n); maps = []; are = rw n; same = λ k. refl }

  module _ {i : ℕ} (l : 0 < i) (g : Leading s all i) {e : EntryDelta} (r : RecordIn s (i - 1) e) where
    top : (k : Text)
        → shown_in (child k) s ≡ lead_or k g.maps (step_child k (entry_meant s.img.now e) (shown_under (child k) s.img.now s.places (i - 1)))
    top k =
        let z : i ≡ i - 1 + 1 = omega arith in
        g.same k ∙ ap (lead_or k g.maps)
        (ap (λ (n : ℕ). shown_under (child k) s.img.now s.places n) z ∙ shown-more s.stacked (child k) (i - 1) (omega (arith, g.low)) r)

    -- "Tombstone: none." "Other kind: none."
    pub leading-end : ((k : Text) (x : Option ℕ) → step_child k (entry_meant s.img.now e) x ≡ None) → LeadsBy s all
    leading-end d = leads-of g.maps g.are (λ k. top k ∙ ap (lead_or k g.maps) (d k _))

    -- "Directory delta: removed name, none; else added name, its inode; else go on below."
    pub leading-more : {n : NodeDelta} {d : DirectoryDelta} → e ≡ E.Node n → n ≡ D.Directory d → (f : AtMostTwo)
        → rows_in s.img.now f ≡ list_rows s.img.now U.Nothing d.removed.start ∷ (list_rows s.img.now U.Inode d.added.start ∷ []) → {out : Lists}
        → Pushes all (in_order f) out
        → Leading s out (i - 1)
    unfolding rows_of
    leading-more {n} {d} en ed f q p =
        let img = s.img.now in
        let z : e ≡ E.Node (D.Directory d) = rw ed at en in
        let t = rw z at r.reads.lists in
        let removed = list_at img U.Nothing d.removed in
        let added = list_at img U.Inode d.added in
        let xs = source_of U.Nothing d.removed.start removed ∷ [] in
        let ys = source_of U.Inode d.added.start added ∷ [] in
        let removed-are = list-are img U.Nothing d.removed.start removed (drop r.end img) t.1.is in
        let added-are = list-are img U.Inode d.added.start added (drop d.removed.start img) t.0.is in
        record {
          low = omega (arith, g.low);
          few = omega (arith, g.few, p.more, many-two f);
          maps = g.maps ++ (xs ++ ys);
          are = sources-more img p ∙ rw (g.are, q, removed-are, added-are, rows_append);
          same = λ k. top k ∙ rw (z, lead-append k g.maps (xs ++ ys), lead-append k xs ys, added-lead, removed-lead);
        }

  -- "Last, a base directory's entries."
  module _ {i : ℕ} (h : i ≤ 0) (g : Leading s all i) {o : Option NameList} (b : BaseEntries s o) where
    pub leading-none : o ≡ None → LeadsBy s all
    leading-none e =
        let z : i ≡ 0 = omega arith in
        leads-of g.maps g.are (λ k. g.same k ∙ ap (lead_or k g.maps) (rw z ((rw e at b) k).0))

    pub leading-all : (r : NameList) → o ≡ Some r → {f : Source} → ListOf s.img.now U.Inode r.place.start f → {out : Lists} → Pushes all (f ∷ []) out
        → LeadsBy s out
    unfolding rows_of
    leading-all r e q p =
        let img = s.img.now in
        let z : i ≡ 0 = omega arith in
        let at-base : BaseEntries s (Some r) = rw e at b in
        let l = list-is img U.Inode r.place (entries-there s r (at-base []).0) in
        let m = list_at img U.Inode r.place in
        let xs = source_of U.Inode r.place.start m ∷ [] in
        leads-of (g.maps ++ xs) (sources-more img p ∙ rw (g.are, q.are, list-are img U.Inode r.place.start m l.0 l.1, rows_append))
        (λ k. g.same k ∙ ap (lead_or k g.maps) (rw z (at-base k).1 ∙ sym (added-lead k r.place.start m None)) ∙ sym (lead-append k g.maps xs None))
