-- Changes of one inode's live directory delta: set parent, add entry, remove entry.
-- Assumes nothing.
use Rattle.std.specs.Prelude.{Result, Err, None, Option, Some}
use mathlib.Core.Path.{◌≡◌, refl, sym, ap, ◌∙◌}
use mathlib.Core.Bool.{true, false}
use mathlib.Core.List.{List, ◌++◌, append_assoc}
use Prim.Native.Nat.{ℕ, ◌≤◌, ◌<◌}
use lib.ListN.{length}
use borrow.Author.Tests.{le-leb, lt-leb}
use Rattle.wire.specs.declared.time.Time.{Time}
use Rattle.wire.specs.Orders.{by_number, by_bytes}
use Rattle.wire.specs.Maps.{get, put}
use Rattle.wire.specs.Combinators.{opt_write}
use Rattle.wire.specs.Number.{number_bytes}
use Rattle.image.specs.Meaning.{Text, Record, Entries, Names, Store, delta, directory}
use Rattle.image.specs.declared.name.Under.TheVariants as U
use Rattle.image.specs.Masks.{maybe}
use Rattle.image.specs.FieldLayout.{inode, entries}
use Rattle.image.specs.KindLayout.{code}
use Rattle.image.specs.RecordLayout.{changes, names, layer_record}
use Rattle.image.specs.RoundTrip.{write_image}
use Rattle.nodes.specs.Listed.{list_of, ListedIf}
use Rattle.nodes.specs.Attrs.{fields_meant}
use Rattle.writers.specs.Writes.{attr_bytes, fields-bytes}
use Rattle.records.proofs.Records.{list-bytes}
use Rattle.rules.specs.Initial.{usual}
use Rattle.rules.specs.Asks.{bad_name}
use Rattle.rules.specs.Calls.{Call}
use Rattle.rules.specs.Changes.{DirectoryChange, setting_parent, on_delta, on_directory}
use Rattle.rules.specs.Queue.{set_live}
use Rattle.rules.specs.Outcomes.{result}
use Rattle.rules.specs.ChangeCalls.{by_rules, update_dir_parent}
use Rattle.change.specs.Changed.{Changes, if_fits}
use Rattle.change.specs.Sections.{Stands}
use Rattle.change.specs.Cuts.{CutsRecords}
use Rattle.overlay.specs.NewLists.{list_bytes}
use Rattle.overlay.specs.NewRecords.{directory_bytes, one_image, replaced_of, unchanged_of}
use Rattle.overlay.specs.Directories.{list_or, IsDirectory, IsOther, Lives, LivesAt}
use Rattle.overlay.specs.Altered.{Alters}
use Rattle.directory.specs.Entries.{parent_of, Renamed, GivesWay, OnDirectory, named_change, SetsName, Naming}
use Rattle.survey.specs.declared.refusal.Refusal.{Refusal}
use Rattle.survey.specs.declared.refusal.Refusal.TheVariants.{BadName, BadArgument}
use Rattle.survey.specs.declared.store.Sections.{Sections}
use Rattle.change.specs.declared.cut.Cut.{Cut}
use Rattle.overlay.specs.declared.delta.LiveDelta.{LiveDelta}
use Rattle.overlay.specs.declared.list.NewRow.{NewRow}
use Rattle.overlay.specs.declared.list.NewRow.TheVariants as R
use Rattle.overlay.specs.declared.record.NewDirectory.{NewDirectory}
use Rattle.overlay.specs.declared.record.NewRecord.TheVariants as N
use Rattle.overlay.specs.declared.write.NewLive.{NewLive}
use Rattle.change.proofs.Finishing.{changes-refused, changes-made}
use Rattle.change.proofs.Cutting.{get-here}
use Rattle.overlay.proofs.Living.{is_cut, replaced-image, unchanged-image}
use Rattle.directory.proofs.Entries.{own_name, kept-bytes}

-- ---- the record, written

-- a directory delta with these lists
pub directory-bytes : (img given newName : List ℕ) (n : NewDirectory) (a : Entries) (b : Names)
    → (end : ℕ) × ListedIf img U.Change n.attr_delta.xattrs end
    → list_bytes img given newName n.added ≡ entries.write a → list_bytes img given newName n.removed ≡ names.write b
    → directory_bytes img given newName n ≡ layer_record.write (delta
    (record { fields = fields_meant img n.attr_delta; change = directory n.parent a b }))
unfolding layer_record code
directory-bytes img given newName n a b l da db =
    let at = n.attr_delta in
    let parent = (maybe inode).write n.parent in
    let lb = list-bytes img l.0 at.xattrs l.1 in
    (λ j. number_bytes 1 ++ (attr_bytes at ++ (lb j ++ (parent ++ (da j ++ db j)))))
    ∙ ap (λ (l : List ℕ). number_bytes 1 ++ l)
    (sym (append_assoc (attr_bytes at) (opt_write changes (list_of img U.Change at.xattrs)) (parent ++ (entries.write a ++ names.write b))))
    ∙ ap (λ (t : List ℕ). number_bytes 1 ++ (t ++ (parent ++ (entries.write a ++ names.write b)))) (sym (fields-bytes img at))

-- ---- the new image

module _ {img : List ℕ} {p : Sections} {i : ℕ} {cut : Cut} (c : CutsRecords img p.live i cut) {live : Option LiveDelta} (h : LivesAt img cut.place live) where
  module _ {s : Store} (w : Stands img p s) where
    lives : Lives img live (get by_number i s.live)
    lives = h.lives _ (rw (get-here by_number i s.live) (is_cut w c).holds)

  -- "on a live record of another sort they do nothing"
  stays_same : live ≡ None → {given newName : List ℕ} (D : DirectoryChange) {n : NewLive} → n ≡ unchanged_of cut i
      → Alters img given newName p i (on_directory D) n
  stays_same e {given} {newName} D {n} q = record {
    writes = λ s w.
        let o : IsOther (get by_number i s.live) = rw e at (lives w) in
        ap (one_image img given newName p) q
        ∙ unchanged-image w c given newName (Some o.is) o.same
        ∙ ap (λ (x : Option Record). write_image (set_live (put by_number i x s.live) s)) (sym (o.stays D));
  }

  module _ {d : LiveDelta} (e : live ≡ Some d) where
    -- a directory delta in its place
    directory-set : (given newName : List ℕ) (D : DirectoryChange) (n : NewDirectory) {new : NewLive} → new ≡ replaced_of cut i (N.Directory n)
        → ((s : Store) → Stands img p s → IsDirectory img d (get by_number i s.live) → directory_bytes img given newName n
        ≡ layer_record.write (on_delta D (fields_meant img d.attr_delta)
        (directory d.parent (list_or img U.Inode d.added) (list_or img U.Nothing d.removed))))
        → Alters img given newName p i (on_directory D) new
    directory-set given newName D n q b = record {
      writes = λ s w.
          let v : IsDirectory img d (get by_number i s.live) = rw e at (lives w) in
          ap (one_image img given newName p) q
          ∙ replaced-image w c given newName (N.Directory n) _ (ap (λ (t : List ℕ). number_bytes i ++ t) (b s w v))
          ∙ ap (λ (x : Option Record). write_image (set_live (put by_number i x s.live) s)) (sym (v.becomes D));
    }

    -- "set parent"
    parent-set : {n : NewDirectory} {new : NewLive} (q : ℕ) → n ≡ parent_of d q → new ≡ replaced_of cut i (N.Directory n)
        → Alters img img img p i (on_directory (setting_parent q)) new
    parent-set {n} q en z =
        directory-set img img (setting_parent q) n z
        (λ s w v.
        rw en
        (directory-bytes img img img (parent_of d q) (list_or img U.Inode d.added) (list_or img U.Nothing d.removed) v.attributes
        (kept-bytes img img img U.Inode d.added v.added.0 v.added.1)
        (kept-bytes img img img U.Nothing d.removed v.removed.0 v.removed.1)))

    -- "Adding takes the name out of removed, and the reverse; both set mtime and ctime to the given time."
    name_set : {name : Text} {t : Time} {added removed : NewRow} {n : NewDirectory} {new : NewLive} → Renamed img d name t added removed n
        → new ≡ replaced_of cut i (N.Directory n) → SetsName img p i name t added removed new
    name_set {name} {t} {added} {removed} {n} m z = record {
      alters = λ a oa b ob.
          directory-set name name (named_change name t a b) n z
          (λ s w v.
          directory-bytes img name name n
          (put by_bytes name a (list_or img U.Inode d.added)) (put by_bytes name b (list_or img U.Nothing d.removed)) (rw m.stamps v.attributes)
          (m.adds.writes w.short v.added.0 v.added.1 name name (own_name name added) a oa)
          (m.removes.writes w.short v.removed.0 v.removed.1 name name (own_name name removed) b ob)
          ∙ rw (m.stamps, m.parent) refl);
    }

module _ {Made : LiveDelta → NewDirectory → Type 0} {img : List ℕ} {p : Sections} {i : ℕ} {new : NewLive} (o : OnDirectory Made img p i new) where
  pub on-parent : (q : ℕ) → ((d : LiveDelta) (n : NewDirectory) → Made d n → n ≡ parent_of d q)
      → Alters img img img p i (on_directory (setting_parent q)) new
  on-parent q made = go o.live refl o.gives
    where
      go : (l : Option LiveDelta) → o.live ≡ l → GivesWay Made o.cut i l new → Alters img img img p i (on_directory (setting_parent q)) new
      go (Some d) e g = parent-set o.cuts o.lives e q (made d g.0 g.1) g.2
      go None e g = stays_same o.cuts o.lives e (setting_parent q) g

  pub on-name : {name : Text} {t : Time} {added removed : NewRow} → ((d : LiveDelta) (n : NewDirectory) → Made d n → Renamed img d name t added removed n)
      → SetsName img p i name t added removed new
  on-name {name} {t} {added} {removed} made = go o.live refl o.gives
    where
      go : (l : Option LiveDelta) → o.live ≡ l → GivesWay Made o.cut i l new → SetsName img p i name t added removed new
      go (Some d) e g = name_set o.cuts o.lives e (made d g.0 g.1) g.2
      go None e g = record { alters = λ a oa b ob. stays_same o.cuts o.lives e (named_change name t a b) g }

-- ---- the calls

pub parent-made : {img : List ℕ} {p : Sections} {s : Store} {i q : ℕ} {old new : List ℕ} {answer : Result ℕ Refusal} {n : NewLive} → Stands img p s
    → Alters img img img p i (on_directory (setting_parent q)) n
    → Changes (if_fits (one_image img img img p n) (length old)) old answer new → Changes (update_dir_parent usual img i q (length old)) old answer new
unfolding result
parent-made {s = s} {i} {q} w r k = changes-made (Call.set_parent i q) w refl (r.writes s w) k

module _ {c : Call} {i : ℕ} {name : Text} {t : Time} {added removed : NewRow} (y : Naming c i name t added removed)
    {img : List ℕ} {p : Sections} {s : Store} (w : Stands img p s) {old : List ℕ} where
  pub name-refused : bad_name name ≡ true → Changes (by_rules usual c img (length old)) old (Err BadName) old
  name-refused h = changes-refused c w (y.refuses s ∙ rw h)

  module _ (h : bad_name name ≡ false) where
    pub time-refused : 1000000000 ≤ t.nanos → Changes (by_rules usual c img (length old)) old (Err BadArgument) old
    time-refused k = changes-refused c w (y.refuses s ∙ rw (h, le-leb 1000000000 t.nanos k))

    pub name-made : {new : List ℕ} {answer : Result ℕ Refusal} {n : NewLive} → t.nanos < 1000000000 → SetsName img p i name t added removed n
        → Changes (if_fits (one_image img name name p n) (length old)) old answer new → Changes (by_rules usual c img (length old)) old answer new
    name-made k r z =
        changes-made c w (y.refuses s ∙ rw (h, lt-leb 1000000000 t.nanos k))
        ((r.alters y.in_added y.adds y.in_removed y.removes).writes s w ∙ ap write_image (sym (y.gives s))) z

pub naming-add : (i : ℕ) (name : Text) (inode : ℕ) (t : Time) → Naming (Call.add i name inode t) i name t (R.Entry inode) R.Absent
unfolding result
naming-add i name inode t = record { in_added = Some inode; in_removed = None; adds = refl; removes = tt; refuses = λ s. refl; gives = λ s. refl }

pub naming-remove : (i : ℕ) (name : Text) (t : Time) → Naming (Call.remove i name t) i name t R.Absent R.Name
unfolding result
naming-remove i name t = record { in_added = None; in_removed = Some tt; adds = tt; removes = refl; refuses = λ s. refl; gives = λ s. refl }
