-- A list is no longer than what is written of it. So what fits with some counts, and is written in n bytes, fits with counts up to n.
use Rattle.std.specs.Prelude.{None, Option, Some}
use mathlib.Core.List.{List, [], ◌∷◌, ◌++◌}
use Prim.Native.Nat.{ℕ, ◌≤◌}
use native.Mathlib.Omega.{arith}
use lib.ListN.{length, length-append}
use Rattle.wire.specs.Codec.{Codec}
use Rattle.wire.specs.Combinators.{nothing, opt_write}
use Rattle.wire.specs.Number.{number_bytes, number-one}
use Rattle.wire.specs.Text.{text_bytes}
use Rattle.wire.specs.Order.{Order}
use Rattle.wire.specs.Orders.{by_number, by_bytes}
use Rattle.wire.specs.Maps.{Map}
use Rattle.wire.specs.Lists.{Every, chain_write, row, onto}
use Rattle.image.specs.Meaning.{Text, Body, Meta, Node, Changes, Fields, Change, Record, Layer, Batch, Store, directory, file, symlink, special, tombstone, delta}
use Rattle.image.specs.Fits.{IfGiven, FitsInode, FitsName, MapFits, MetaFits, BodyFits, NodeFits, ChangesFits, FieldsFits, ChangeFits, RecordFits, LayerFits, BatchFits, StoreFits}
use Rattle.image.specs.Masks.{maybe}
use Rattle.image.specs.FieldLayout.{inode, name, value}
use Rattle.image.specs.NodeLayout.{body_part, body_part_of, meta, node}
use Rattle.image.specs.RecordLayout.{changes, fields, change_part, change_part_of, layer_record}
use Rattle.image.specs.StoreLayout.{batch_after, id_of, batches, store}
use Rattle.image.specs.RoundTrip.{write_image}
use Rattle.image.specs.Meaning.{kind_of, changed_kind}

text-one : (t : Text) → 1 ≤ length (text_bytes t)
text-one t = omega (arith, number-one (length t), length-append (number_bytes (length t)) t)

-- what is written of a list behind its count
abbrev row_bytes : {K A : Type 0} (O : Order K) → Codec K → Codec A → Map O A → List ℕ
row_bytes O key value m = chain_write (row O key value) (onto O key value) None m.rows

module _ (C Q : ℕ → Type 0) where
  -- Q holds of each number up to the length of s
  abbrev pub Upto : List ℕ → Type 0
  Upto s = (k : ℕ) → k ≤ length s → Q k

  -- ---- lists

  module _ {K A : Type 0} (O : Order K) (key : Codec K) (value : Codec A) (one : (k : K) → 1 ≤ length (key.write k)) where
    rows_short : (prev : Option K) (l : List (K × A)) → length l ≤ length (chain_write (row O key value) (onto O key value) prev l)
    rows_short prev [] = omega arith
    rows_short prev (e ∷ l) =
        let w = chain_write (row O key value) (onto O key value) (Some e.0) l in
        omega (arith, rows_short (Some e.0) l, one e.0, length-append (key.write e.0) (value.write e.1), length-append (key.write e.0 ++ value.write e.1) w)

    module _ (P : K → Type 0) {X Y : A → Type 0} (each : (v : A) → X v → Upto (value.write v) → Y v) where
      every-row : (prev : Option K) (l : List (K × A)) → Every (λ e. P e.0 × X e.1) l → Upto (chain_write (row O key value) (onto O key value) prev l)
          → Every (λ e. P e.0 × Y e.1) l
      every-row prev [] h u = tt
      every-row prev (e ∷ l) h u =
          ((h.0.0, each e.1 h.0.1 (λ k h. u k (simp length-append (omega arith)))), every-row (Some e.0) l h.1 (λ k h. u k (simp length-append (omega arith))))

      recount-map : (m : Map O A) → MapFits C P X m → Upto (row_bytes O key value m) → MapFits Q P Y m
      recount-map m h u = record { count = u (length m.rows) (rows_short None m.rows); each = every-row None m.rows h.each u }

  -- ---- the base

  -- what stands under a name, and has no list in it
  recount-names : {A : Type 0} {X : A → Type 0} (value : Codec A) (m : Map by_bytes A) → MapFits C FitsName X m → Upto (row_bytes by_bytes name value m)
      → MapFits Q FitsName X m
  recount-names value = recount-map by_bytes name value text-one FitsName (λ v h u. h)

  recount-meta : (m : Meta) → MetaFits C m → Upto (meta.write m) → MetaFits Q m
  unfolding meta
  recount-meta m h u = record {
    perm = h.perm;
    links = h.links;
    owner = h.owner;
    group = h.group;
    atime = h.atime;
    mtime = h.mtime;
    ctime = h.ctime;
    attributes = recount-names value m.attributes h.attributes (λ k h. u k (simp length-append (omega arith)));
  }

  recount-body : (b : Body) → BodyFits C b → Upto ((body_part (kind_of b)).write (body_part_of b)) → BodyFits Q b
  recount-body (directory parent es) h u = (h.0, recount-names inode es h.1 (λ k h. u k (simp length-append (omega arith))))
  recount-body (file size) h u = h
  recount-body (symlink target) h u = h
  recount-body (special device) h u = h

  recount-node : (n : Node) → NodeFits C n → Upto (node.write n) → NodeFits Q n
  unfolding node
  recount-node n h u = record { meta = recount-meta n.meta h.meta (λ k h. u k (simp length-append (omega arith))); body = recount-body n.body h.body (λ k h. u k (simp length-append (omega arith))) }

  -- ---- the layers

  recount-changes : (o : Option Changes) → IfGiven (ChangesFits C) o → Upto (opt_write changes o) → IfGiven (ChangesFits Q) o
  recount-changes None h u = tt
  recount-changes (Some c) h u = recount-names (maybe value) c h (λ k h. u k (simp length-append (omega arith)))

  pub recount-fields : (f : Fields) → FieldsFits C f → Upto (fields.write f) → FieldsFits Q f
  unfolding fields
  recount-fields f h u = record {
    mode = h.mode;
    owner = h.owner;
    group = h.group;
    links = h.links;
    atime = h.atime;
    mtime = h.mtime;
    ctime = h.ctime;
    created = h.created;
    attributes = recount-changes f.attributes h.attributes (λ k h. u k (simp length-append (omega arith)));
  }

  recount-change : (c : Change) → ChangeFits C c → Upto ((change_part (changed_kind c)).write (change_part_of c)) → ChangeFits Q c
  recount-change (directory parent added removed) h u =
      (h.0, (recount-names inode added h.1.0 (λ k h. u k (simp length-append (omega arith))), recount-names nothing removed h.1.1 (λ k h. u k (simp length-append (omega arith)))))
  recount-change (file size) h u = h
  recount-change (symlink target) h u = h
  recount-change (special s device) h u = h

  pub recount-record : (r : Record) → RecordFits C r → Upto (layer_record.write r) → RecordFits Q r
  unfolding layer_record
  recount-record tombstone h u = tt
  recount-record (delta d) h u =
      record { fields = recount-fields d.fields h.fields (λ k h. u k (simp length-append (omega arith))); change = recount-change d.change h.change (λ k h. u k (simp length-append (omega arith))) }

  recount-layer : (l : Layer) → LayerFits C l → Upto (row_bytes by_number inode layer_record l) → LayerFits Q l
  recount-layer = recount-map by_number inode layer_record number-one FitsInode recount-record

  recount-batches : (prev : Option ℕ) (bs : List Batch) → Every (BatchFits C) bs → Upto (chain_write batch_after id_of prev bs) → Every (BatchFits Q) bs
  unfolding batch_after
  recount-batches prev [] h u = tt
  recount-batches prev (b ∷ bs) h u =
      let f = h.0 in (
        record { id = f.id; bytes = f.bytes; operations = f.operations; reason = f.reason; committed = f.committed; records = recount-layer b.records f.records (λ k h. u k (simp length-append (omega arith))) },
        recount-batches (Some b.id) bs h.1 (λ k h. u k (simp length-append (omega arith))),
      )

  -- ---- the store

  pub recount-store : (s : Store) → StoreFits C s → Upto (write_image s) → StoreFits Q s
  unfolding store batches
  recount-store s h u = record {
    base = recount-map by_number inode node number-one FitsInode recount-node s.base h.base (λ k h. u k (simp length-append (omega arith)));
    batches = record { count = h.batches.count; each = recount-batches None s.batches h.batches.each (λ k h. u k (simp length-append (omega arith))); rising = h.batches.rising };
    live = recount-layer s.live h.live (λ k h. u k (simp length-append (omega arith)));
    next = h.next;
    ids = h.ids;
    bytes = h.bytes;
    operations = h.operations;
    request = h.request;
  }
