-- A list by name with the row of one name changed. Document 01: "Adding takes the name out of removed, and the reverse; both set mtime and
-- ctime to the given time."
use Rattle.wire.specs.declared.part.Part.{Part}
use Rattle.std.specs.Prelude.{◌≡◌, Bool, true, false, not, cond, List, [], ◌∷◌, ℕ, ◌≤◌, length, Result, None, Option, Some}
use Rattle.wire.specs.declared.time.Time.{Time}
use Rattle.wire.specs.Orders.{by_bytes}
use Rattle.wire.specs.Maps.{put}
use Rattle.wire.specs.Number.{number_bytes}
use Rattle.image.specs.Meaning.{Text, Store}
use Rattle.image.specs.declared.name.Under.{Under}
use Rattle.image.specs.declared.name.Under.TheVariants as U
use Rattle.image.specs.Under.{UnderName, under}
use Rattle.nodes.specs.Listed.{by_name, ListedIf}
use Rattle.nodes.specs.declared.attr.AttrDelta.{AttrDelta}
use Rattle.rules.specs.Initial.{usual}
use Rattle.rules.specs.Answers.{first_of}
use Rattle.rules.specs.Asks.{bad_name}
use Rattle.rules.specs.Calls.{Call}
use Rattle.rules.specs.Changes.{DirectoryChange, stamp, on_directory}
use Rattle.rules.specs.Queue.{on_live}
use Rattle.rules.specs.Refusals.{refusal, bad_time}
use Rattle.rules.specs.Outcomes.{result}
use Rattle.rules.specs.ChangeCalls.{by_rules}
use Rattle.change.specs.Changed.{Changes}
use Rattle.change.specs.Cuts.{count_after, CutsRecords}
use Rattle.overlay.specs.NewLists.{kept_of, list_bytes}
use Rattle.overlay.specs.NewRecords.{replaced_of, unchanged_of}
use Rattle.overlay.specs.Directories.{list_or, LivesAt}
use Rattle.overlay.specs.Altered.{Alters}
use Rattle.survey.specs.declared.refusal.Refusal.{Refusal}
use Rattle.change.specs.declared.cut.Cut.{Cut}
use Rattle.survey.specs.declared.store.Sections.{Sections}
use Rattle.overlay.specs.declared.list.NewRow.{NewRow}
use Rattle.overlay.specs.declared.list.NewRow.TheVariants as R
use Rattle.overlay.specs.declared.list.NewRows.{NewRows}
use Rattle.overlay.specs.declared.list.NewList.{NewList}
use Rattle.overlay.specs.declared.list.NewList.TheVariants as L
use Rattle.overlay.specs.declared.delta.LiveDelta.{LiveDelta}
use Rattle.overlay.specs.declared.record.NewDirectory.{NewDirectory}
use Rattle.overlay.specs.declared.record.NewRecord.TheVariants as N
use Rattle.overlay.specs.declared.write.NewLive.{NewLive}

abbrev pub has_row : NewRow → Bool
has_row R.Absent = false
has_row R.Name = true
has_row (R.Entry inode) = true

-- a list that ends at `end`, its rows cut at a name, with that name's row as it is to be
abbrev pub changed_rows : Cut → ℕ → NewRow → NewRows
changed_rows c end new = record {
  count = count_after c.rows.count c.place (has_row new);
  first = c.rows.first;
  lower = record { start = c.rows.first; end = c.rows.first };
  gap = c.gap;
  new = new;
  upper = record { start = end; end = end };
  end = end;
}

-- no row of the name's before, and none afterwards
abbrev pub stays_absent : Option ℕ → NewRow → Bool
stays_absent (Some p) new = false
stays_absent None new = not (has_row new)

abbrev pub cut_list : Option Part → Cut → ℕ → NewRow → NewList
cut_list list c end new = cond (stays_absent c.place new) (kept_of list) (L.Changed (changed_rows c end new))

-- what stands under the name afterwards, in a list of this sort
abbrev pub StandsFor : (u : Under) → NewRow → Option (UnderName u) → Type 0
StandsFor u R.Absent None = Unit {0}
StandsFor u R.Absent (Some v) = ⊥
StandsFor u R.Name None = ⊥
StandsFor u R.Name (Some v) = (under u).write v ≡ []
StandsFor u (R.Entry inode) None = ⊥
StandsFor u (R.Entry inode) (Some v) = (under u).write v ≡ number_bytes inode

-- the texts given have the name where its row is written
abbrev pub HasName : List ℕ → List ℕ → NewRow → Text → Type 0
HasName given newName R.Absent name = Unit {0}
HasName given newName R.Name name = given ≡ name
HasName given newName (R.Entry inode) name = newName ≡ name

-- the list is written with the name's row as it is to be
pub record RowChanged (img : List ℕ) (u : Under) (list : Option Part) (name : Text) (new : NewRow) (r : NewList) : Type 0 where
  pub writes :
      length img ≤ 65536 → (end : ℕ) → ListedIf img u list end → (given newName : List ℕ) → HasName given newName new name
      → (o : Option (UnderName u)) → StandsFor u new o
      → list_bytes img given newName r ≡ (by_name u).write (put by_bytes name o (list_or img u list))

-- ---- add entry and remove entry

abbrev pub stamped_of : AttrDelta → Time → AttrDelta
stamped_of a t = record {
  mode = a.mode;
  uid = a.uid;
  gid = a.gid;
  nlink = a.nlink;
  atime = a.atime;
  mtime = Some t;
  ctime = Some t;
  created_at = a.created_at;
  xattrs = a.xattrs;
}

-- a directory delta with another row of the name's in added, and in removed
pub record Renamed (img : List ℕ) (d : LiveDelta) (name : Text) (t : Time) (added removed : NewRow) (n : NewDirectory) : Type 0 where
  pub stamps : n.attr_delta ≡ stamped_of d.attr_delta t
  pub parent : n.parent ≡ d.parent
  pub adds : RowChanged img U.Inode d.added name added n.added
  pub removes : RowChanged img U.Nothing d.removed name removed n.removed

-- with another parent
abbrev pub parent_of : LiveDelta → ℕ → NewDirectory
parent_of d q = record { attr_delta = d.attr_delta; parent = Some q; added = kept_of d.added; removed = kept_of d.removed }

-- a directory delta gives way to what is made of it; a record of another sort stays
abbrev pub GivesWay : (LiveDelta → NewDirectory → Type 0) → Cut → ℕ → Option LiveDelta → NewLive → Type 0
GivesWay Made c i (Some d) r = (n : NewDirectory) × Made d n × (r ≡ replaced_of c i (N.Directory n))
GivesWay Made c i None r = r ≡ unchanged_of c i

-- the live one of an inode, where its record is cut
pub record OnDirectory (Made : LiveDelta → NewDirectory → Type 0) (img : List ℕ) (p : Sections) (i : ℕ) (r : NewLive) : Type 0 where
  pub cut : Cut
  pub cuts : CutsRecords img p.live i cut
  pub live : Option LiveDelta
  pub lives : LivesAt img cut.place live
  pub gives : GivesWay Made cut i live r

-- what stands under the name in added, and in removed
abbrev pub named_change : Text → Time → Option ℕ → Option (Unit {0}) → DirectoryChange
named_change name t a b = record { parent = λ p. p; added = put by_bytes name a; removed = put by_bytes name b; fields = stamp t }

pub record SetsName (img : List ℕ) (p : Sections) (i : ℕ) (name : Text) (t : Time) (added removed : NewRow) (r : NewLive) : Type 0 where
  pub alters :
      (a : Option ℕ) → StandsFor U.Inode added a → (b : Option (Unit {0})) → StandsFor U.Nothing removed b
      → Alters img name name p i (on_directory (named_change name t a b)) r

-- a call that changes what stands under a name
pub record Naming (c : Call) (i : ℕ) (name : Text) (t : Time) (added removed : NewRow) : Type 0 where
  pub in_added : Option ℕ
  pub in_removed : Option (Unit {0})
  pub adds : StandsFor U.Inode added in_added
  pub removes : StandsFor U.Nothing removed in_removed
  pub refuses : (s : Store) → refusal c s ≡ first_of ((3, bad_name name) ∷ (4, bad_time t) ∷ [])
  pub gives : (s : Store) → result usual c s ≡ on_live i (on_directory (named_change name t in_added in_removed)) s

abbrev pub ChangesName : List ℕ → ℕ → Text → Time → NewRow → NewRow → List ℕ → Result ℕ Refusal → List ℕ → Type 0
ChangesName img i name t added removed old r new = (c : Call) → Naming c i name t added removed → Changes (by_rules usual c img (length old)) old r new
