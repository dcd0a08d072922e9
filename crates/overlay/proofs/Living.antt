-- Changes of one inode's live record: "Insert replaces the live record", "Tombstone replaces it too".
-- Assumes nothing.
use Rattle.std.specs.Prelude.{Result, Ok, Err, None, Option, Some}
use mathlib.Core.Path.{◌≡◌, refl, sym, ap, subst, ◌∙◌}
use mathlib.Core.Bool.{Bool, true, false, not}
use mathlib.Core.List.{List, [], ◌∷◌, ◌++◌, append_assoc, append-nil}
use Prim.Native.Nat.{ℕ, ◌<◌}
use native.Mathlib.Omega.{arith}
use lib.ListN.{length, drop, length-drop, drop_of_length-le}
use lib.Dec.{eqb}
use borrow.Author.Tests.{eqb-true, eqb-false}
use Rattle.wire.specs.declared.fault.Fault.{Fault}
use Rattle.wire.specs.Orders.{by_number}
use Rattle.wire.specs.Maps.{over, get, put}
use Rattle.wire.specs.Parse.{Parsed, fault, got}
use Rattle.wire.specs.Codec.{Codec, whole, decode}
use Rattle.wire.specs.Number.{number_bytes, groups}
use Rattle.wire.specs.Reading.{Reads}
use Rattle.image.specs.Meaning.{Record, Store, tombstone, delta}
use Rattle.image.specs.KindLayout.{code}
use Rattle.image.specs.FieldLayout.{inode}
use Rattle.image.specs.NodeLayout.{base}
use Rattle.image.specs.RecordLayout.{layer_record, records}
use Rattle.image.specs.StoreLayout.{batches}
use Rattle.image.specs.RoundTrip.{write_image}
use Rattle.deltas.specs.declared.delta.EntryDelta.{EntryDelta}
use Rattle.deltas.specs.declared.delta.EntryDelta.TheVariants as E
use Rattle.deltas.specs.declared.delta.NodeDelta.{NodeDelta}
use Rattle.deltas.specs.Deltas.{entry_meant, ReadsEntry}
use Rattle.writers.specs.Tails.{tail}
use Rattle.rules.specs.Initial.{usual}
use Rattle.rules.specs.Calls.{Call}
use Rattle.rules.specs.Queue.{set_live}
use Rattle.rules.specs.Outcomes.{result}
use Rattle.rules.specs.Refusals.{no_delta}
use Rattle.rules.specs.ChangeCalls.{if_read, given_record, insert_new_node, tombstone as tombstoned}
use Rattle.change.specs.Changed.{Changes, if_fits}
use Rattle.change.specs.Sections.{Stands, tail_of}
use Rattle.change.specs.Cuts.{row_here, rows_bytes, under_first, count_after, CutIs, CutsRecords}
use Rattle.change.specs.Edits.{row_if, edit_rows, put_all}
use Rattle.change.specs.Splices.{Splices}
use Rattle.survey.specs.declared.refusal.Refusal.{Refusal}
use Rattle.survey.specs.declared.refusal.Refusal.TheVariants.{BadArgument}
use Rattle.change.specs.declared.cut.Cut.{Cut}
use Rattle.survey.specs.declared.store.Sections.{Sections}
use Rattle.std.specs.Borrow.{Bor}
use Rattle.overlay.specs.declared.list.Copied.{Copied}
use Rattle.overlay.specs.NewLists.{copied_of}
use Rattle.overlay.specs.NewRecords.{WritesOne}
use Rattle.overlay.specs.NewRecords.{record_row, record_pieces, edited_image, lead_in, one_image, edit_at, replaced_of, unchanged_of}
use Rattle.overlay.specs.declared.record.NewRecord.{NewRecord}
use Rattle.overlay.specs.declared.record.NewRecord.TheVariants as N
use Rattle.overlay.specs.declared.record.Edit.{Edit}
use Rattle.overlay.specs.declared.write.NewLive.{NewLive}
use Rattle.change.proofs.Sections.{span-part, span-both, store_bytes, stands-fits}
use Rattle.change.proofs.Finishing.{not-false, changes-refused, changes-made}
use Rattle.change.proofs.Cutting.{get-here, here-row, count-more, count_same}
use Rattle.change.proofs.Splicing.{splices-bytes, piece-last}
use Rattle.wire.proofs.Decoding.{encode-decode}
use Rattle.image.proofs.OneForm.{layer_record-one}

-- ---- whether one construct was given, and no more

module _ {A : Type 0} (c : Codec A) {given : List ℕ} {a : A} {q : ℕ} (r : Reads given c.read 0 (Ok (a, q))) where
  pub read_whole : q ≡ length given → if_read (decode c given) ≡ Some a
  unfolding decode
  read_whole h = rw (r.same, drop_of_length-le given {i = q} (omega (arith, h)))

  pub read-longer : (q ≡ length given → ⊥) → if_read (decode c given) ≡ None
  unfolding decode
  read-longer h = rw r.same (go (drop q given) (omega (arith, h, r.within, length-drop q given)))
    where
      go : (t : List ℕ) → 0 < length t → if_read (whole (got a t)) ≡ None
      go [] h = absurd (omega arith)
      go (x ∷ t) h = refl

module _ {given : List ℕ} {o : Result (EntryDelta × ℕ) Fault} (r : ReadsEntry given 0 o) where
  -- not all was read
  pub given-broken : {f : Fault} → o ≡ Err f → true ≡ no_delta (given_record given)
  unfolding decode
  given-broken d = rw (rw d at r).reads.same

  module _ {e : EntryDelta} {q : ℕ} (d : o ≡ Ok (e, q)) where
    read : Reads given layer_record.read 0 (Ok (entry_meant given e, q))
    read = (rw d at r).reads

    given-by-end : no_delta (Some (entry_meant given e)) ≡ false → not (eqb q (length given)) ≡ no_delta (given_record given)
    given-by-end h = go (eqb q (length given)) refl
      where
        go : (b : Bool) → eqb q (length given) ≡ b → not b ≡ no_delta (given_record given)
        go true d = rw (read_whole layer_record read (eqb-true q (length given) d)) (sym h)
        go false d = rw (read-longer layer_record read (eqb-false q (length given) d))

    given-by-none : no_delta (Some (entry_meant given e)) ≡ true → true ≡ no_delta (given_record given)
    given-by-none h = go (eqb q (length given)) refl
      where
        go : (b : Bool) → eqb q (length given) ≡ b → true ≡ no_delta (given_record given)
        go true d = rw (read_whole layer_record read (eqb-true q (length given) d)) (sym h)
        go false d = rw (read-longer layer_record read (eqb-false q (length given) d))

    pub given-delta : {n : NodeDelta} → e ≡ E.Node n → not (eqb q (length given)) ≡ no_delta (given_record given)
    given-delta {n} z = given-by-end (rw z)

    pub given-tombstone : e ≡ E.Tombstone → true ≡ no_delta (given_record given)
    given-tombstone z = given-by-none (rw z)

-- ---- the new image

pub tombstone-bytes : number_bytes 0 ≡ layer_record.write tombstone
unfolding layer_record code number_bytes groups
tombstone-bytes = refl

-- what is written of a record and its inode
pub row-bytes : (i : ℕ) (r : Record) → number_bytes i ++ layer_record.write r ≡ rows_bytes inode layer_record (row_if by_number i (Some r))
unfolding rows_bytes
row-bytes i r = sym (append-nil (number_bytes i ++ layer_record.write r))

module _ {img : List ℕ} {p : Sections} {s : Store} (w : Stands img p s) where
  -- up to four records changed, or any number of them
  pub live-image : (given newName : List ℕ) {count first : ℕ} (E : List Edit) (es : List (ℕ × Option Record))
      → Splices by_number inode layer_record img s.live (tail.write (tail_of s)) (length img) count first (record_pieces img given newName E) es
      → edited_image img given newName (lead_in p count first) E ≡ write_image (set_live (put_all by_number es s.live) s)
  live-image given newName E es h =
      let front = span-part (span-both w.base w.batches) in
      let b = splices-bytes by_number inode layer_record h in
      (λ j. front j ++ b j)
      ∙ append_assoc (base.write s.base) (batches.write s.batches) (records.write (put_all by_number es s.live) ++ tail.write (tail_of s))
      ∙ sym (store_bytes (set_live (put_all by_number es s.live) s))

  module _ {i : ℕ} {cut : Cut} (c : CutsRecords img p.live i cut) where
    pub is_cut : CutIs by_number inode layer_record img i s.live.rows p.tail cut
    unfolding layer_record
    is_cut = c.cut s.live p.tail (stands-fits w).live w.live

    -- one record changed
    cut-image : (given newName : List ℕ) (count : ℕ) (r : NewRecord) (o : Option Record) → count ≡ length (edit_rows by_number ((i, o) ∷ []) s.live.rows)
        → record_row img given newName (edit_at cut i r) ≡ rows_bytes inode layer_record (row_if by_number i o)
        → edited_image img given newName (lead_in p count cut.rows.first) (edit_at cut i r ∷ []) ≡ write_image (set_live (put by_number i o s.live) s)
    unfolding over
    cut-image given newName count r o n e =
        live-image given newName (edit_at cut i r ∷ []) ((i, o) ∷ [])
        (record {
          rising = (tt, tt);
          counts = n;
          pieces = piece-last by_number inode layer_record o (record_row img given newName (edit_at cut i r)) is_cut w.tail e;
        })

    pub replaced-image : (given newName : List ℕ) (r : NewRecord) (new : Record)
        → record_row img given newName (replaced_of cut i r).edit ≡ number_bytes i ++ layer_record.write new
        → one_image img given newName p (replaced_of cut i r) ≡ write_image (set_live (put by_number i (Some new) s.live) s)
    unfolding edit_rows
    replaced-image given newName r new e =
        cut-image given newName (count_after cut.rows.count cut.place true) r (Some new)
        (count-more by_number inode layer_record is_cut s.live.rising [] tt (Some new) is_cut.count) (e ∙ row-bytes i new)

    pub unchanged-image : (given newName : List ℕ) (o : Option Record) → get by_number i s.live ≡ o
        → one_image img given newName p (unchanged_of cut i) ≡ write_image (set_live (put by_number i o s.live) s)
    unfolding edit_rows
    unchanged-image given newName o e =
        let l = s.live.rows in
        let x = under_first (row_here by_number i l) in
        let y : x ≡ o = sym (get-here by_number i s.live) ∙ e in
        cut-image given newName cut.rows.count N.Same x
        (is_cut.count ∙ sym (count_same by_number inode layer_record is_cut s.live.rising [] tt))
        (span-part is_cut.here ∙ ap (rows_bytes inode layer_record) (here-row by_number i l))
        ∙ ap (λ (z : Option Record). write_image (set_live (put by_number i z s.live) s)) y

-- ---- written, with what was given as the name of an entry too

pub written-of : (p : Sections) (n : NewLive) {img given : Bor (List ℕ)} {copied : Copied} {old new : List ℕ} {answer : Result ℕ Refusal}
    → copied ≡ copied_of img given → WritesOne copied p n old answer new → WritesOne (copied_of img given) p n old answer new
written-of p n {old = old} {new} {answer} e w = subst (λ (c : Copied). WritesOne c p n old answer new) e w

-- ---- "Tombstone replaces it too"

module _ {img : List ℕ} {p : Sections} {s : Store} (w : Stands img p s) {i : ℕ} {cut : Cut} (c : CutsRecords img p.live i cut) where
  pub tombstone-made : {n : NewLive} {old new : List ℕ} {answer : Result ℕ Refusal} → n ≡ replaced_of cut i N.Tombstone
      → Changes (if_fits (one_image img img img p n) (length old)) old answer new → Changes (tombstoned usual img i (length old)) old answer new
  unfolding result
  tombstone-made e =
      changes-made (Call.tombstone i) w refl
      (ap (one_image img img img p) e ∙ replaced-image w c img img N.Tombstone tombstone (ap (λ (t : List ℕ). number_bytes i ++ t) tombstone-bytes))

  -- ---- "Insert replaces the live record"

  pub insert-made : (given : List ℕ) {n : NewLive} {old new : List ℕ} {answer : Result ℕ Refusal} → no_delta (given_record given) ≡ false
      → n ≡ replaced_of cut i N.Given
      → Changes (if_fits (one_image img given given p n) (length old)) old answer new → Changes (insert_new_node usual img i given (length old)) old answer new
  unfolding result
  insert-made given {n} {old} {new} {answer} h q k = go (decode layer_record given) refl
    where
      go : (d : Parsed Record) → decode layer_record given ≡ d → Changes (insert_new_node usual img i given (length old)) old answer new
      go (fault f) e = absurd (not-false (rw e at h))
      go (got tombstone r) e = absurd (not-false (rw e at h))
      go (got (delta d) r) e =
          let g : given ≡ layer_record.write (delta d) = (encode-decode layer_record layer_record-one given (delta d) r e).0 in
          changes-made (Call.insert i (given_record given)) w (rw e)
          (ap (one_image img given given p) q ∙ replaced-image w c given given N.Given (delta d) (ap (λ (t : List ℕ). number_bytes i ++ t) g) ∙ rw e) k

pub insert-refused : {img : List ℕ} {p : Sections} {s : Store} (i : ℕ) → Stands img p s → (given : List ℕ) {old : List ℕ} → no_delta (given_record given) ≡ true
    → Changes (insert_new_node usual img i given (length old)) old (Err BadArgument) old
insert-refused i w given h = changes-refused (Call.insert i (given_record given)) w (rw h)
