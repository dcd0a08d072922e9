-- Update of one inode's attributes.
-- Assumes nothing.
use native.Mathlib.Omega.{arith}
use mathlib.Core.Bool.{Bool, true, false}
use Rattle.std.specs.Prelude.{nat_eq, ok_or}
use Rattle.std.specs.Bool.{then_some}
use borrow.Author.Tests.{eqb-true, eqb-false}
use Rattle.wire.specs.declared.part.Part.{Part}
use Rattle.std.specs.Prelude.{Result, Ok, Err, None, Option, Some}
use mathlib.Core.Path.{◌≡◌, refl, sym, ap, ◌∙◌}
use mathlib.Core.List.{List, [], ◌∷◌, ◌++◌, append_assoc}
use Prim.Native.Nat.{ℕ, suc}
use lib.ListN.{length, drop}
use Rattle.wire.specs.declared.fault.Fault.{Fault}
use Rattle.wire.specs.Orders.{by_number}
use Rattle.wire.specs.Maps.{empty, get, put}
use Rattle.wire.specs.Parse.{got}
use Rattle.wire.specs.Codec.{decode}
use Rattle.wire.specs.Combinators.{opt_write}
use Rattle.wire.specs.Number.{number_bytes, groups}
use Rattle.image.specs.declared.name.Under.TheVariants as U
use Rattle.stack.specs.declared.stack.Stack.{Stack}
use Rattle.image.specs.Meaning.{Kind, Record, Layer, Batch, Store, directory, file, symlink, special, tombstone, delta, kind_number, changed_kind}
use Rattle.image.specs.Fits.{FitsRecord}
use Rattle.image.specs.FieldLayout.{inode}
use Rattle.image.specs.RecordLayout.{changes, fields, layer_record}
use Rattle.image.specs.Places.{Holds}
use Rattle.image.specs.RoundTrip.{read_image, write_image}
use Rattle.nodes.specs.Listed.{list_of, ListedIf}
use Rattle.nodes.specs.Attrs.{fields_meant, ReadsAttr}
use Rattle.nodes.specs.declared.attr.AttrDelta.{AttrDelta}
use Rattle.image.specs.FileTypes.{kind_meant}
use Rattle.image.specs.declared.kind.FileType.{FileType}
use Rattle.image.specs.declared.kind.FileType.TheVariants as K
use Rattle.writers.specs.Writes.{attr_bytes, fields-bytes}
use Rattle.writers.proofs.Writing.{list_written}
use Rattle.stack.specs.Stacks.{type_of}
use Rattle.stack.specs.InStack.{StackOf, shown_in}
use Rattle.rules.specs.Initial.{usual}
use Rattle.rules.specs.Calls.{Call}
use Rattle.rules.specs.Reads.{type}
use Rattle.rules.specs.Stacks.{over?, stack_on, batch_layers, with_live}
use Rattle.rules.specs.Changes.{map_if, bare_change, bare_delta, updated}
use Rattle.rules.specs.Queue.{set_live, on_live, type_below}
use Rattle.rules.specs.Outcomes.{result}
use Rattle.rules.specs.ChangeCalls.{given_fields, update_attr_delta}
use Rattle.rules.proofs.PlacedStack.{placed-stack, placed-node}
use Rattle.change.specs.Changed.{Changes, if_fits}
use Rattle.change.specs.Sections.{Spans, Stands}
use Rattle.change.specs.Cuts.{row_here, under_first, StandsAt, CutsRecords}
use Rattle.meld.specs.Merged.{changes_anew}
use Rattle.overlay.specs.NewRecords.{bare_bytes, updated_bytes, record_row, one_image, replaced_of, unchanged_of}
use Rattle.update.specs.Updates.{WholeFields, new_delta, merged_delta, Onto, Updates}
use Rattle.survey.specs.declared.refusal.Refusal.{Refusal}
use Rattle.survey.specs.declared.refusal.Refusal.TheVariants.{BadArgument}
use Rattle.survey.specs.declared.store.Sections.{Sections}
use Rattle.change.specs.declared.cut.Cut.{Cut}
use Rattle.overlay.specs.declared.record.Updated.{Updated}
use Rattle.overlay.specs.declared.record.NewRecord.{NewRecord}
use Rattle.overlay.specs.declared.record.NewRecord.TheVariants as N
use Rattle.overlay.specs.declared.write.NewLive.{NewLive}
use Rattle.change.proofs.Finishing.{changes-refused, changes-made}
use Rattle.change.proofs.Cutting.{get-here}
use Rattle.overlay.proofs.Living.{read_whole, read-longer, tombstone-bytes, is_cut, replaced-image, unchanged-image}
use Rattle.update.proofs.Onto.{changed, delta-bytes}
use Rattle.image.proofs.OneForm.{layer_record-one}

-- ---- no live record

only-given : (img given : List ℕ) (x : Option Part) (end : ℕ) → ListedIf given U.Change x end
    → changes_anew img given x None ≡ opt_write changes (list_of given U.Change x)
only-given img given (Some p) end h = list_written U.Change h
only-given img given None end h = refl

bare-bytes : (k : FileType) → bare_bytes (suc (kind_number (kind_meant k))) ≡ changed (bare_change (kind_meant k))
unfolding empty number_bytes groups
bare-bytes K.Directory = refl
bare-bytes K.RegularFile = refl
bare-bytes K.Symlink = refl
bare-bytes K.NamedPipe = refl
bare-bytes K.CharDevice = refl
bare-bytes K.BlockDevice = refl
bare-bytes K.Socket = refl

bare-kind : (k : Kind) → changed_kind (bare_change k) ≡ k
bare-kind directory = refl
bare-kind file = refl
bare-kind symlink = refl
bare-kind (special s) = refl

-- "makes a delta of the type below, device 0"
new-delta-bytes : (img given : List ℕ) (k : FileType) (a : AttrDelta) (after end : ℕ) → ListedIf given U.Change a.xattrs end
    → updated_bytes img given (new_delta k a) after ≡ layer_record.write (bare_delta (fields_meant given a) (kind_meant k))
new-delta-bytes img given k a after end h =
    let c = number_bytes (suc (kind_number (kind_meant k))) in
    let b = bare_change (kind_meant k) in
    (λ j. c ++ (attr_bytes a ++ (only-given img given a.xattrs end h j ++ bare-bytes k j)))
    ∙ ap (λ (l : List ℕ). c ++ l) (sym (append_assoc (attr_bytes a) (opt_write changes (list_of given U.Change a.xattrs)) (changed b)))
    ∙ sym (λ j. number_bytes (suc (kind_number (bare-kind (kind_meant k) j))) ++ (fields-bytes given a j ++ changed b))
    ∙ sym (delta-bytes (fields_meant given a) b)

-- a layer that has no record of the inode shows what is below it
stack-over : (i : ℕ) (bs : List Batch) (live : Layer) (rs : List Record)
    → stack_on i (with_live bs live) rs ≡ over? (get by_number i live) (stack_on i (batch_layers bs) rs)
unfolding stack_on
stack-over i [] live rs = refl
stack-over i (b ∷ bs) live rs = stack-over i bs live (over? (get by_number i b.records) rs)

type-under : {k : Stack} {i : ℕ} {s : Store} → StackOf k.img.now i k → read_image k.img.now ≡ got s []
    → get by_number i s.live ≡ None → shown_in type k ≡ type_below s i
type-under {k} {i} {s} w e n =
    rw (w.records_are, w.node_is, placed-stack k.img.now i e, placed-node k.img.now i e, stack-over i s.batches s.live [], n)

-- ---- the new image

abbrev live_of : ℕ → Store → Option Record
live_of i s = get by_number i s.live

abbrev new_of : List ℕ → AttrDelta → ℕ → Store → Option Record → Option Record
new_of given a i s = updated (fields_meant given a) (type_below s i)

module _ {img : List ℕ} {p : Sections} {s : Store} (w : Stands img p s) {i : ℕ} (a : AttrDelta) (given : List ℕ)
    {cut : Cut} (c : CutsRecords img p.live i cut) where
  -- another record
  new-bytes : {n : NewLive} (r : NewRecord) (o : Option Record) (new : Record) → n ≡ replaced_of cut i r → live_of i s ≡ o → new_of given a i s o ≡ Some new
      → record_row img given given (replaced_of cut i r).edit ≡ number_bytes i ++ layer_record.write new
      → one_image img given given p n ≡ write_image (on_live i (new_of given a i s) s)
  new-bytes r o new q e d b =
      ap (one_image img given given p) q
      ∙ replaced-image w c given given r new b
      ∙ ap (λ (x : Option Record). write_image (set_live (put by_number i x s.live) s)) (sym (ap (new_of given a i s) e ∙ d))

  module _ {n : NewLive} (at : ℕ) (r : NewRecord) (q : n ≡ replaced_of cut i r) (o : Onto img at a r)
      (end : ℕ) (g : ListedIf given U.Change a.xattrs end) where
    record-bytes : (y : Record) → live_of i s ≡ Some y → Holds img layer_record.read (Some at) (Some y) → Spans img at (layer_record.write y) cut.gap.end
        → one_image img given given p n ≡ write_image (on_live i (new_of given a i s) s)
    unfolding layer_record
    record-bytes tombstone e k t =
        let z = o.stays cut.gap.end t in
        new-bytes N.Tombstone (Some tombstone) tombstone (q ∙ ap (replaced_of cut i) z) e refl (ap (λ (x : List ℕ). number_bytes i ++ x) tombstone-bytes)
    record-bytes (delta d) e k t =
        let f : FitsRecord (delta d) = (layer_record-one.forth (drop at img) (delta d) k.0 k.1).1 in
        let m = o.merges cut.gap.end d f t in
        new-bytes (N.Updated m.new) (Some (delta d)) (merged_delta given a d) (q ∙ ap (replaced_of cut i) m.is) e refl
        (ap (λ (x : List ℕ). number_bytes i ++ x) (m.writes given end g))

    held_bytes : (h : List (ℕ × Record)) → live_of i s ≡ under_first h → Holds img layer_record.read (Some at) (under_first h)
        → StandsAt by_number inode layer_record img (Some at) h cut.gap.end
        → one_image img given given p n ≡ write_image (on_live i (new_of given a i s) s)
    held_bytes [] e k t = absurd k
    held_bytes (x ∷ h) e k t = record-bytes x.1 e k t

-- there is a live record
pub updates-live : {k : Stack} {p : Sections} {i : ℕ} {a : AttrDelta} {cut : Cut} {at : ℕ} {r : NewRecord} {n : NewLive}
    → CutsRecords k.img.now p.live i cut → cut.place ≡ Some at → Onto k.img.now at a r → n ≡ replaced_of cut i r → Updates k p i a n
updates-live {i = i} {a} {at = at} {r} c e o q = record {
  writes = λ s w z given end g.
      held_bytes w a given c at r q o end g (row_here by_number i s.live.rows) (get-here by_number i s.live)
      (rw e at (is_cut w c).holds) (rw e at (is_cut w c).stands);
}

none-live : {img : List ℕ} {p : Sections} {s : Store} {i : ℕ} {cut : Cut} → Stands img p s → CutsRecords img p.live i cut
    → cut.place ≡ None → live_of i s ≡ None
none-live {img} {p} {s} {i} w c e = get-here by_number i s.live ∙ go (under_first (row_here by_number i s.live.rows)) (rw e at (is_cut w c).holds)
  where
    go : (o : Option Record) → Holds img layer_record.read None o → o ≡ None
    go None h = refl
    go (Some r) h = absurd h

module _ {k : Stack} {p : Sections} {i : ℕ} {a : AttrDelta} {cut : Cut} {t : Option FileType} where
  -- "with no live record makes a delta of the type below"
  pub updates-new : {f : FileType} {u : Updated} {n : NewLive} → CutsRecords k.img.now p.live i cut → cut.place ≡ None
      → type_of t ≡ shown_in type k → t ≡ Some f
      → u ≡ new_delta f a → n ≡ replaced_of cut i (N.Updated u) → Updates k p i a n
  updates-new {f} {u} c e d z y q = record {
    writes = λ s w m given end g.
        let v = none-live w c e in
        let b : type_below s i ≡ Some (kind_meant f) = sym (type-under m w.is v) ∙ sym d ∙ ap type_of z in
        new-bytes w a given c (N.Updated (new_delta f a)) None (bare_delta (fields_meant given a) (kind_meant f))
        (q ∙ ap (λ (r : Updated). replaced_of cut i (N.Updated r)) y) v (ap (map_if (bare_delta (fields_meant given a))) b)
        (ap (λ (l : List ℕ). number_bytes i ++ l) (new-delta-bytes k.img.now given f a cut.gap.end end g));
  }

  -- "or does nothing if none exists"
  pub updates-none : {n : NewLive} → CutsRecords k.img.now p.live i cut → cut.place ≡ None → type_of t ≡ shown_in type k → t ≡ None
      → n ≡ unchanged_of cut i → Updates k p i a n
  updates-none c e d z q = record {
    writes = λ s w m given end g.
        let v = none-live w c e in
        let b : type_below s i ≡ None = sym (type-under m w.is v) ∙ sym d ∙ ap type_of z in
        ap (one_image k.img.now given given p) q
        ∙ unchanged-image w c given given None v
        ∙ ap (λ (x : Option Record). write_image (set_live (put by_number i x s.live) s))
        (sym (ap (new_of given a i s) v ∙ ap (map_if (bare_delta (fields_meant given a))) b));
  }

-- ---- the call

module _ {given : List ℕ} {o : Result (AttrDelta × ℕ) Fault} (r : ReadsAttr given 0 o) where
  pub fields-broken : {f : Fault} → o ≡ Err f → WholeFields given None
  unfolding decode
  fields-broken d = rw (rw d at r).reads.same

  module _ {a : AttrDelta} {q : ℕ} (d : o ≡ Ok (a, q)) where
    pub fields-if : WholeFields given (then_some (nat_eq q (length given)) a)
    fields-if = go (nat_eq q (length given)) refl
      where
        go : (b : Bool) → nat_eq q (length given) ≡ b → WholeFields given (then_some b a)
        go true e = (read_whole fields (rw d at r).reads (eqb-true q (length given) e), (q, (rw d at r).listed))
        go false e = read-longer fields (rw d at r).reads (eqb-false q (length given) e)

module _ {img : List ℕ} {p : Sections} {s : Store} (given : List ℕ) {old : List ℕ} (w : Stands img p s) where
  -- "4 if the delta given breaks the layout, has bytes left over"
  pub update-refused : (o : Option AttrDelta) → WholeFields given o → (i : ℕ) {u : Result AttrDelta Refusal} {e : Refusal} {answer : Result ℕ Refusal}
      → u ≡ ok_or o BadArgument → u ≡ Err e → answer ≡ Err e → Changes (update_attr_delta usual img i given (length old)) old answer old
  update-refused o r i {e = e} {answer} v d z = go o r (sym d ∙ v)
    where
      go : (o : Option AttrDelta) → WholeFields given o → ◌≡◌ {A = Result AttrDelta Refusal} (Err e) (ok_or o BadArgument)
          → Changes (update_attr_delta usual img i given (length old)) old answer old
      go (Some a) r q = let n : ◌≡◌ {A = ℕ} 0 1 = cc in absurd (omega arith)
      go None r q = let b : e ≡ BadArgument = cc in rw (z, b) (changes-refused (Call.update i (given_fields given)) w (rw r))

  pub update-made : {o : Option AttrDelta} {i : ℕ} {k : Stack} {a : AttrDelta} {n : NewLive} {new : List ℕ} {answer : Result ℕ Refusal}
      → WholeFields given o → o ≡ Some a → StackOf img i k → Updates k p i a n
      → Changes (if_fits (one_image img given given p n) (length old)) old answer new
      → Changes (update_attr_delta usual img i given (length old)) old answer new
  unfolding result
  update-made {i = i} {k} {a} {n} r e m u z =
      let g = rw e at r in
      let y = m.image_is in
      let h : StackOf k.img.now i k = record { image_is = refl; node_is = rw y m.node_is; records_are = rw y m.records_are } in
      let b : one_image k.img.now given given p n ≡ write_image (on_live i (updated (fields_meant given a) (type_below s i)) s) =
      u.writes s (rw y w) h given g.1.0 g.1.1 in
      changes-made (Call.update i (given_fields given)) w (rw g.0) (rw y at b ∙ rw g.0) z
