-- What is written of a record that is held against its stack below.
-- Assumes nothing.
use Rattle.std.specs.Prelude.{None, Option, Some, Result, Ok, Err}
use Rattle.std.specs.Option.{option_eq}
use Rattle.image.specs.declared.kind.FileType.{FileType}
use Rattle.image.specs.declared.kind.FileType.TheVariants as T
use Rattle.image.specs.contracts.kind.FileTypePartialEq.TheImpl as TypeEq
use mathlib.Core.Path.{◌≡◌, refl, sym, ap, ◌∙◌, subst, fun_ext}
use mathlib.Core.Bool.{true, false}
use mathlib.Core.List.{List, [], ◌∷◌, ◌++◌, append_assoc, append-nil}
use Prim.Native.Nat.{ℕ, zero, suc, ◌+◌, ◌-◌, ◌≤◌, ◌<◌}
use native.Mathlib.Omega.{arith}
use lib.ListN.{length, take, drop, get_or, length-append, length-drop}
use lib.Seq.{take_at}
use Rattle.std.specs.Result.{result_unwrap_or}
use Rattle.wire.specs.declared.fault.Fault.{Fault}
use Rattle.wire.specs.Parse.{never-got}
use Rattle.wire.specs.Number.{number_bytes}
use Rattle.wire.specs.Orders.{by_bytes}
use Rattle.wire.specs.Maps.{empty}
use Rattle.wire.specs.Put.{Put}
use Rattle.wire.proofs.Puts.{put-append}
use Rattle.image.specs.Meaning.{Text, Kind, Entries, Names, Fields, Record, directory, file, symlink, special, delta}
use Rattle.image.specs.Masks.{maybe}
use Rattle.image.specs.FieldLayout.{inode, entries}
use Rattle.image.specs.KindLayout.{code}
use Rattle.image.specs.RecordLayout.{fields, names, layer_record}
use Rattle.image.specs.Places.{Ends}
use Rattle.image.specs.declared.name.Under.TheVariants as U
use Rattle.survey.specs.declared.batch.InodeLayerStack.{InodeLayerStack}
use Rattle.image.proofs.Passing.{ends-got, ends-fault}
use Rattle.nodes.specs.Attrs.{fields_meant}
use Rattle.nodes.specs.Listed.{by_name, list_at, Listed}
use Rattle.deltas.specs.Deltas.{change_meant, entry_meant}
use Rattle.deltas.specs.declared.delta.DirectoryDelta.{DirectoryDelta}
use Rattle.deltas.specs.declared.delta.NodeDelta.{NodeDelta}
use Rattle.deltas.specs.declared.delta.NodeDelta.TheVariants as D
use Rattle.deltas.specs.declared.delta.EntryDelta.{EntryDelta}
use Rattle.deltas.specs.declared.delta.EntryDelta.TheVariants as E
use Rattle.writers.proofs.Writing.{part-written}
use Rattle.rules.specs.Reads.{child, type}
use Rattle.rules.specs.Normalise.{normal_change, normal_directory}
use Rattle.stack.specs.Stacks.{AllRead, Stacked, records_under, node_in, RecordIs, type_of}
use Rattle.stack.specs.InStack.{shown_in}
use Rattle.stack.specs.declared.stack.Stack.{Stack}
use Rattle.rules.specs.Starts.{Placed}
use Rattle.rules.specs.PlacedStacks.{unplaced, unplaced_node}
use Rattle.stack.proofs.Walks.{records-more}
use Rattle.merge.specs.declared.sources.Sources.{Sources}
use Rattle.change.specs.Sections.{between}
use Rattle.walk.specs.Walks.{pieces_in}
use Rattle.keep.specs.Below.{Leads}
use Rattle.keep.specs.Keeps.{leads_in, kept_map, kept_bytes}
use Rattle.image.specs.declared.name.Under.{Under}
use Rattle.wire.specs.declared.part.Part.{Part}
use Rattle.lookup.specs.Search.{IsListOf}
use Rattle.lookup.specs.declared.list.NameList.{NameList}
use Rattle.normalize.specs.Records.{is_directory, normal_at, normal_in, normal_pieces, Copies}
use Rattle.nodes.proofs.OneForm.{by_name-one}
use Rattle.image.proofs.OneForm.{layer_record-one}

-- bytes from one place to another
pub between_is : (img : List ℕ) (place q : ℕ) (w : List ℕ) → drop place img ≡ w ++ drop q img → q ≤ length img → between img place q ≡ w
between_is img place q w x h =
    rw x
    (take_at w (drop q img) (q - place)
    (omega (arith, ap length x, length-append w (drop q img), length-drop place img, length-drop q img)))

-- ---- a directory delta

directory-bytes : (f : Fields) (p : Option ℕ) (a : Entries) (r : Names)
    → layer_record.write (delta (record { fields = f; change = directory p a r }))
    ≡ (code.write (Some Kind.directory) ++ (fields.write f ++ (maybe inode).write p)) ++ (entries.write a ++ names.write r)
unfolding layer_record
directory-bytes f p a r = simp append_assoc

-- the rows that stay of a list of the delta
module _ (l : NameList) {img : List ℕ} {u : Under} {p : Part} (g : IsListOf img u p l) where
  pub kept-of : (f : Text → Option ℕ) → kept_bytes l f ≡ (by_name u).write (kept_map u f (list_at img u p))
  kept-of f = rw (g.image, g.sort, g.at) refl

module _ (s : Stack) {place : ℕ} {d : DirectoryDelta} (g : RecordIs s.img.now place (E.Node (D.Directory d))) where
  abbrev f : Fields
  f = fields_meant s.img.now d.attr_delta

  abbrev p : Option ℕ
  p = d.parent

  abbrev a : Entries
  a = list_at s.img.now U.Inode d.added

  abbrev r : Names
  r = list_at s.img.now U.Nothing d.removed

  abbrev front : List ℕ
  front = code.write (Some Kind.directory) ++ (fields.write f ++ (maybe inode).write p)

  added-listed : Listed s.img.now U.Inode d.added d.removed.start
  added-listed = g.reads.lists.0

  removed-listed : Listed s.img.now U.Nothing d.removed g.end
  removed-listed = g.reads.lists.1

  -- up to the lists
  front_bytes : between s.img.now place d.added.start ≡ front
  front_bytes =
      let e = entries.write a ++ (names.write r ++ drop g.end s.img.now) in
      let x : drop place s.img.now ≡ front ++ e =
      (layer_record-one.forth _ _ _ g.reads.reads.same).0 ∙ ap (λ (t : List ℕ). t ++ drop g.end s.img.now) (directory-bytes f p a r)
      ∙ append_assoc front (entries.write a ++ names.write r) (drop g.end s.img.now)
      ∙ ap (λ (t : List ℕ). front ++ t) (append_assoc (entries.write a) (names.write r) (drop g.end s.img.now)) in
      let y : drop d.added.start s.img.now ≡ e =
      ((by_name-one U.Inode).forth _ _ _ added-listed.is).0
      ∙ ap (λ (t : List ℕ). entries.write a ++ t) ((by_name-one U.Nothing).forth _ _ _ removed-listed.is).0 in
      between_is s.img.now place d.added.start front (x ∙ ap (λ (t : List ℕ). front ++ t) (sym y)) (omega (arith, added-listed.ends, added-listed.inside))

  entries-bytes : between s.img.now d.added.start d.removed.start ≡ entries.write a
  entries-bytes =
      part-written (by_name U.Inode) (by_name-one U.Inode) (omega (arith, added-listed.ends, added-listed.inside))
      (record { same = added-listed.is; within = added-listed.inside })

  abbrev Normal : List ℕ → ℕ → ℕ → List ℕ → Option Kind → Type 0
  Normal old at q new k =
      let change = normal_directory (λ name. shown_in (child name) s) k p a r in
      Put old at (layer_record.write (delta (record { fields = f; change = change }))) q new

  module _ {old b₁ new : List ℕ} {at q₁ q₃ : ℕ} (h : Put old at (between s.img.now place d.added.start) q₁ b₁) where
    -- "else it drops added names that lead to the same inode below and removed names that lead to none"
    pub normal-directory : {all : Sources} → Leads s all → is_directory (shown_in type s) ≡ true
        → (x y : NameList) → IsListOf s.img.now U.Inode d.added x × IsListOf s.img.now U.Nothing d.removed y
        → Put b₁ q₁ (kept_bytes x (leads_in all) ++ kept_bytes y (leads_in all)) q₃ new
        → Put old at (layer_record.write (normal_in s (entry_meant s.img.now (E.Node (D.Directory d))))) q₃ new
    normal-directory {all} l e x y lists u = go (shown_in type s) e
      where
        same : leads_in all ≡ (λ name. shown_in (child name) s)
        same = fun_ext (λ name. l.leads name)

        there : Normal old at q₃ new (Some directory)
        there =
            subst
            (λ (B : Text → Option ℕ).
            let change = normal_directory B (Some directory) p a r in
            Put old at (layer_record.write (delta (record { fields = f; change = change }))) q₃ new)
            same
            (rw directory-bytes (put-append (rw front_bytes at h) (rw (kept-of x lists.0 _, kept-of y lists.1 _) at u)))

        go : (k : Option Kind) → is_directory k ≡ true → Normal old at q₃ new k
        go None e = cc
        go (Some directory) e = there
        go (Some file) e = cc
        go (Some symlink) e = cc
        go (Some (special x)) e = cc

    -- "not existing or not a directory, removed is emptied"
    pub normal-none : {b₂ : List ℕ} {q₂ : ℕ} → is_directory (shown_in type s) ≡ false → Put b₁ q₁ (between s.img.now d.added.start d.removed.start) q₂ b₂
        → Put b₂ q₂ (number_bytes 0) q₃ new
        → Put old at (layer_record.write (normal_in s (entry_meant s.img.now (E.Node (D.Directory d))))) q₃ new
    unfolding empty
    normal-none e u v = go (shown_in type s) e
      where
        there : Put old at (layer_record.write (delta (record { fields = f; change = directory p a (empty by_bytes) }))) q₃ new
        there = rw (directory-bytes, append-nil) (put-append (rw front_bytes at h) (put-append (rw entries-bytes at u) v))

        go : (k : Option Kind) → is_directory k ≡ false → Normal old at q₃ new k
        go None e = there
        go (Some directory) e = cc
        go (Some file) e = there
        go (Some symlink) e = there
        go (Some (special x)) e = there

-- what the derived `==` answers of a kind that may be there
pub directory-eq : (o : Option FileType) → option_eq TypeEq.eq-value.it o (Some T.Directory) ≡ is_directory (type_of o)
directory-eq None = refl
directory-eq (Some T.Directory) = refl
directory-eq (Some T.RegularFile) = refl
directory-eq (Some T.Symlink) = refl
directory-eq (Some T.NamedPipe) = refl
directory-eq (Some T.CharDevice) = refl
directory-eq (Some T.BlockDevice) = refl
directory-eq (Some T.Socket) = refl

-- another kind stays as it is
other-normal : (img : List ℕ) (n : NodeDelta) → ((d : DirectoryDelta) → n ≡ D.Directory d → ⊥) → (B : Text → Option ℕ) (k : Option Kind)
    → normal_change B k (change_meant img n) ≡ change_meant img n
other-normal img (D.Directory d) h B k = absurd (h d refl)
other-normal img (D.File d) h B k = refl
other-normal img (D.Symlink d) h B k = refl
other-normal img (D.Fifo d) h B k = refl
other-normal img (D.CharDevice d) h B k = refl
other-normal img (D.BlockDevice d) h B k = refl
other-normal img (D.Socket d) h B k = refl

-- ---- a record as it stands

pub copied : {img : List ℕ} {place : ℕ} {o : Result ℕ Fault} {q : ℕ} → Ends img layer_record.read place o
    → q ≡ result_unwrap_or o 0 → {old new : List ℕ} {at r : ℕ}
    → Put old at (between img place q) r new → Copies img place old at r new
copied {img} {place} {o} {q} h e {old} {new} {at} {r} p = record { copies = λ x g. go o h e x g }
  where
    go : (o : Result ℕ Fault) → Ends img layer_record.read place o → q ≡ result_unwrap_or o 0 → (x : EntryDelta)
        → RecordIs img place x → Put old at (layer_record.write (entry_meant img x)) r new
    go (Err f) h e x g = never-got (sym (ends-fault h) ∙ g.reads.reads.same)
    go (Ok n) h e x g =
        let y = ends-got h in
        let z : entry_meant img x ≡ y.0 = cc (g.reads.reads.same, y.1) in
        let w = (layer_record-one.forth _ _ _ y.1).0 in
        rw (z, ← (between_is img place n (layer_record.write y.0) w h.within), ← e) p

-- ---- the topmost record of a stack

all-less : (img l : List ℕ) (n m : ℕ) → n ≤ m → AllRead img (take m l) → AllRead img (take n l)
all-less img l zero m h a = tt
all-less img [] (suc n) m h a = tt
all-less img (x ∷ l) (suc n) zero h a = absurd (omega arith)
all-less img (x ∷ l) (suc n) (suc m) h a = (a.0, all-less img l n m (omega arith) a.1)

module _ (s : Stack) (h : 0 < s.places.count) where
  abbrev top : ℕ
  top = s.places.count - 1

  abbrev below : InodeLayerStack
  below = record { base = s.places.base; deltas = s.places.deltas; count = top }

  pub below-stacked : Stacked s.img.now below
  below-stacked =
      let all = s.stacked in
      record {
        node = all.node;
        records = all-less s.img.now s.places.deltas top s.places.count (omega arith) all.records;
        few = omega (arith, all.few);
        wide = all.wide;
      }

  module _ (e : EntryDelta) (g : RecordIs s.img.now (get_or s.places.deltas top 0) e) where
    pieces-top : normal_pieces (pieces_in s) ≡ normal_at s.img.now below (entry_meant s.img.now e)
    pieces-top =
        let z : s.places.count ≡ top + 1 = omega arith in
        let more = ap (records_under s.img.now s.places) z ∙ records-more s.stacked top (omega arith) g in
        ap (λ (rs : List (Placed Record)). normal_pieces (unplaced rs, unplaced_node (node_in s.img.now s.places))) more

    pub top-directory : {n : NodeDelta} {d : DirectoryDelta} → e ≡ E.Node n → n ≡ D.Directory d → {old new : List ℕ} {at r : ℕ}
        → Put old at (layer_record.write (normal_at s.img.now below (entry_meant s.img.now (E.Node (D.Directory d))))) r new
        → Put old at (layer_record.write (normal_pieces (pieces_in s))) r new
    top-directory en ed p = rw (pieces-top, en, ed) p

    pub top-tombstone : e ≡ E.Tombstone → {old new : List ℕ} {at r : ℕ} → Copies s.img.now (get_or s.places.deltas top 0) old at r new
        → Put old at (layer_record.write (normal_pieces (pieces_in s))) r new
    top-tombstone z p = rw (pieces-top, z) (rw z at (p.copies e g))

    pub top-other : {n : NodeDelta} → e ≡ E.Node n → ((d : DirectoryDelta) → n ≡ D.Directory d → ⊥) → {old new : List ℕ} {at r : ℕ}
        → Copies s.img.now (get_or s.places.deltas top 0) old at r new → Put old at (layer_record.write (normal_pieces (pieces_in s))) r new
    top-other {n} z o p = rw (pieces-top, z, other-normal s.img.now n o _ _) (rw z at (p.copies e g))
