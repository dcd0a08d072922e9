-- A name stands in the image at its start: the part of the image there, as long as the name, is the name.
use Rattle.std.specs.Prelude.{None, Option, Some}
use mathlib.Core.Path.{◌≡◌, refl, ap, ◌∙◌}
use mathlib.Core.List.{List, [], ◌∷◌, ◌++◌, append_assoc}
use Prim.Native.Nat.{ℕ, ◌+◌}
use lib.ListN.{length, take, drop}
use lib.Seq.{take-append_seam}
use Rattle.std.specs.declared.cmp.Ordering.{Ordering}
use Rattle.std.specs.declared.cmp.Ordering.TheVariants.{Less, Equal, Greater}
use Rattle.wire.specs.Parse.{Parsed, fault, got}
use Rattle.wire.specs.Number.{number_bytes}
use Rattle.wire.specs.Text.{text_bytes}
use Rattle.wire.specs.Codec.{Codec}
use Rattle.wire.specs.Orders.{by_bytes}
use Rattle.wire.specs.Rows.{choose, lookup, Rising}
use Rattle.wire.specs.RowLaws.{lookup-under}
use Rattle.wire.specs.Maps.{Map, meet, merge, empty, get, get-empty, get-merge}
use Rattle.wire.specs.Lists.{Every, chain_write, row, onto}
use Rattle.wire.specs.Reading.{part}
use Rattle.image.specs.Meaning.{Text, Names, Body, Meta, Node, Changes, Fields, Change, Delta, Record, directory, file, symlink, special, tombstone, delta}
use Rattle.image.specs.Fits.{IfGiven}
use Rattle.image.specs.Masks.{maybe}
use Rattle.image.specs.FieldLayout.{inode, name, value, listed}
use Rattle.image.specs.NodeLayout.{node}
use Rattle.image.specs.Places.{if_read}
use Rattle.image.specs.RecordLayout.{names, layer_record}
use Rattle.rules.specs.Starts.{Placed, Started, start_rows, starts, attributes_at, entries_at, changes_at, added_at}
use Rattle.rules.specs.PlacedReads.{look_placed, body_starts, change_starts, record_starts, placed_entries, set_start, alter_starts, record_value_starts, placed_values}
use Rattle.rules.specs.PlacedStacks.{node_place, record_places, read_at, node_at, on_top, records_on, placed_records, placed_node}
use Rattle.rules.proofs.ListPlaces.{on, attributes-at, changes-at, entries-at, added-at}

module _ (img : List ℕ) where
  abbrev pub Stands : Text → ℕ → Type 0
  Stands k start = part img start (length k) ≡ k

  -- each name of a list stands at its start
  abbrev pub Standing : {A : Type 0} → Started A → Type 0
  Standing m = (k : Text) → IfGiven (λ x. Stands k x.0) (get by_bytes k m)

  -- ---- a list that stands in the image

  name-stands : (q : ℕ) (n w t : List ℕ) → drop q img ≡ (text_bytes n ++ w) ++ t → Stands n (q + length (number_bytes (length n)))
  name-stands q n w t e =
      let d : drop q img ≡ number_bytes (length n) ++ (n ++ (w ++ t)) = simp append_assoc at e in
      ap (take (length n)) (on img q (number_bytes (length n)) (n ++ (w ++ t)) d) ∙ take-append_seam n (w ++ t)

  module _ {A : Type 0} (value : Codec A) where
    abbrev rows_written : Option Text → List (Text × A) → List ℕ
    rows_written = chain_write (row by_bytes name value) (onto by_bytes name value)

    rows-stand : (prev : Option Text) (q : ℕ) (l : List (Text × A)) (t : List ℕ) → drop q img ≡ rows_written prev l ++ t
        → (k : Text) → IfGiven (λ x. Stands k x.0) (lookup by_bytes k (start_rows value q l))
    unfolding lookup start_rows
    rows-stand prev q [] t e k = tt
    rows-stand prev q (e ∷ l) t d k =
        let w = name.write e.0 ++ value.write e.1 in
        let r = rows_written (Some e.0) l ++ t in
        let whole : drop q img ≡ w ++ r = d ∙ append_assoc w (rows_written (Some e.0) l) t in
        go (by_bytes.cmp k e.0) _ _ refl (name-stands q e.0 (value.write e.1) r whole) (rows-stand (Some e.0) (q + length w) l t (on img q w r whole) k)
      where
        go : (c : Ordering) (start : ℕ) (o : Option (ℕ × A)) → by_bytes.cmp k e.0 ≡ c → Stands e.0 start → IfGiven (λ x. Stands k x.0) o
            → IfGiven (λ x. Stands k x.0) (choose c (Some (start, e.1)) o)
        go Less start o h s ih = ih
        go Greater start o h s ih = ih
        go Equal start o h s ih = rw (by_bytes.same k e.0 h) s

    pub starts-stand : (p : ℕ) (m : Map by_bytes A) (t : List ℕ) → drop p img ≡ (listed by_bytes name value).write m ++ t → Standing (starts value p m)
    unfolding get starts
    starts-stand p m t e =
        let n = number_bytes (length m.rows) in
        rows-stand None (p + length n) m.rows t (on img p n (rows_written None m.rows ++ t) (e ∙ append_assoc n (rows_written None m.rows) t))

-- ---- what a placed stack shows

module _ (img : List ℕ) where
  -- it is read at its place
  abbrev Here : {A : Type 0} → Codec A → Placed A → Type 0
  Here c x = (r : List ℕ) × (c.read (drop x.place img) ≡ got x.held r)

  read_here : {A : Type 0} (c : Codec A) (p : ℕ) → IfGiven (Here c) (read_at c img p)
  read_here {A} c p = go (c.read (drop p img)) refl
    where
      go : (o : Parsed A) → c.read (drop p img) ≡ o → IfGiven (Here c) (if_read o (λ a r. Some (record { place = p; held = a })))
      go (fault f) e = tt
      go (got a r) e = (r, e)

  node-here : (o : Option ℕ) → IfGiven (Here node) (node_at img o)
  node-here None = tt
  node-here (Some p) = read_here node p

  records-here : (ps : List ℕ) (rs : List (Placed Record)) → Every (Here layer_record) rs → Every (Here layer_record) (records_on img ps rs)
  unfolding records_on
  records-here [] rs h = h
  records-here (p ∷ ps) rs h = records-here ps (on_top (read_at layer_record img p) rs) (go (read_at layer_record img p) (read_here layer_record p))
    where
      go : (o : Option (Placed Record)) → IfGiven (Here layer_record) o → Every (Here layer_record) (on_top o rs)
      go None k = h
      go (Some r) k = (k, h)

  none-stand : (A : Type 0) → Standing img (empty by_bytes {A = ℕ × A})
  none-stand A k = rw get-empty tt

  added-stand : (added es : Started ℕ) → Standing img added → Standing img es → Standing img (merge by_bytes (λ name new old. Some new) added es)
  added-stand added es h s k = rw get-merge (go (get by_bytes k added) (h k))
    where
      go : (o : Option (ℕ × ℕ)) → IfGiven (λ x. Stands img k x.0) o → IfGiven (λ x. Stands img k x.0) (meet (λ new old. Some new) o (get by_bytes k es))
      go None f = s k
      go (Some x) f = f

  removed-stand : (removed : Names) (es : Started ℕ) → Standing img es → Standing img (merge by_bytes (λ name u old. None) removed es)
  removed-stand removed es s k = rw get-merge (go (get by_bytes k removed))
    where
      go : (o : Option (Unit {0})) → IfGiven (λ x. Stands img k x.0) (meet (λ u old. None) o (get by_bytes k es))
      go None = s k
      go (Some u) = tt

  altered-stand : (cs : Started (Option Text)) (vs : Started Text) → Standing img cs → Standing img vs → Standing img (merge by_bytes (λ name c old. set_start c) cs vs)
  altered-stand cs vs h s k = rw get-merge (go (get by_bytes k cs) (h k))
    where
      set : (start : ℕ) (o : Option Text) → Stands img k start → IfGiven (λ x. Stands img k x.0) (set_start (start, o))
      set start None f = tt
      set start (Some v) f = f

      go : (o : Option (ℕ × Option Text)) → IfGiven (λ x. Stands img k x.0) o → IfGiven (λ x. Stands img k x.0) (meet (λ c old. set_start c) o (get by_bytes k vs))
      go None f = s k
      go (Some x) f = set x.0 x.1 f

  -- ---- entries

  body-stands : (p : ℕ) (m : Meta) (b : Body) (r : List ℕ) → node.read (drop p img) ≡ got (record { meta = m; body = b }) r → Standing img (body_starts p m b)
  body-stands p m (directory parent es) r e = starts-stand img inode (entries_at p m parent) es r (entries-at img p m parent es r e)
  body-stands p m (file size) r e = none-stand ℕ
  body-stands p m (symlink target) r e = none-stand ℕ
  body-stands p m (special device) r e = none-stand ℕ

  change-stands : (p : ℕ) (f : Fields) (c : Change) (r : List ℕ) → layer_record.read (drop p img) ≡ got (delta (record { fields = f; change = c })) r → (es : Started ℕ)
      → Standing img es → Standing img (change_starts p f c es)
  change-stands p f (directory parent added removed) r e es s =
      added-stand (starts inode (added_at p f parent) added) (merge by_bytes (λ name u old. None) removed es)
      (starts-stand img inode (added_at p f parent) added (names.write removed ++ r) (added-at img p f parent added removed r e)) (removed-stand removed es s)
  change-stands p f (file n) r e es s = s
  change-stands p f (symlink t) r e es s = s
  change-stands p f (special x device) r e es s = s

  record-stands : (p : ℕ) (h : Record) (r : List ℕ) → layer_record.read (drop p img) ≡ got h r → (es : Started ℕ) → Standing img es → Standing img (record_starts p h es)
  record-stands p tombstone r e es s = none-stand ℕ
  record-stands p (delta d) r e es s = change-stands p d.fields d.change r e es s

  entries-stand : (rs : List (Placed Record)) (b : Option (Placed Node)) → Every (Here layer_record) rs → IfGiven (Here node) b → Standing img (look_placed placed_entries rs b)
  unfolding look_placed
  entries-stand [] None h k = none-stand ℕ
  entries-stand [] (Some n) h k = body-stands n.place n.held.meta n.held.body k.0 k.1
  entries-stand (r ∷ rs) b h k = record-stands r.place r.held h.0.0 h.0.1 (look_placed placed_entries rs b) (entries-stand rs b h.1 k)

  -- ---- attributes

  alter-stands : (p : ℕ) (d : Delta) (r : List ℕ) → layer_record.read (drop p img) ≡ got (delta d) r → (o : Option Changes) → d.fields.attributes ≡ o → (vs : Started Text)
      → Standing img vs → Standing img (meet (alter_starts p d.fields) o vs)
  alter-stands p d r e None a vs s = s
  alter-stands p d r e (Some cs) a vs s =
      let c = changes-at img p d cs r e a in
      altered-stand (starts (maybe value) (changes_at p d.fields cs) cs) vs (starts-stand img (maybe value) (changes_at p d.fields cs) cs c.0 c.1) s

  record-values : (p : ℕ) (h : Record) (r : List ℕ) → layer_record.read (drop p img) ≡ got h r → (vs : Started Text) → Standing img vs → Standing img (record_value_starts p h vs)
  record-values p tombstone r e vs s = none-stand Text
  record-values p (delta d) r e vs s = alter-stands p d r e d.fields.attributes refl vs s

  values-stand : (rs : List (Placed Record)) (b : Option (Placed Node)) → Every (Here layer_record) rs → IfGiven (Here node) b → Standing img (look_placed placed_values rs b)
  unfolding look_placed
  values-stand [] None h k = none-stand Text
  values-stand [] (Some n) h k =
      let a = attributes-at img n.place n.held k.0 k.1 in
      starts-stand img value (attributes_at n.place n.held.meta) n.held.meta.attributes a.0 a.1
  values-stand (r ∷ rs) b h k = record-values r.place r.held h.0.0 h.0.1 (look_placed placed_values rs b) (values-stand rs b h.1 k)

  -- ---- the stack of an inode, whatever the image is

  pub placed-entries-stand : (i : ℕ) → Standing img (look_placed placed_entries (placed_records img i) (placed_node img i))
  placed-entries-stand i = entries-stand (placed_records img i) (placed_node img i) (records-here (record_places img i) [] tt) (node-here (node_place img i))

  pub placed-values-stand : (i : ℕ) → Standing img (look_placed placed_values (placed_records img i) (placed_node img i))
  placed-values-stand i = values-stand (placed_records img i) (placed_node img i) (records-here (record_places img i) [] tt) (node-here (node_place img i))

-- ---- rows

-- what holds of each name that a list has holds of each of its rows
module _ {A : Type 0} (P : Text → A → Type 0) where
  each_row : (l : List (Text × A)) → Rising by_bytes l → ((k : Text) → IfGiven (P k) (lookup by_bytes k l)) → Every (λ e. P e.0 e.1) l
  unfolding lookup
  each_row [] r h = tt
  each_row (e ∷ l) r h = (rw (by_bytes.self e.0) at (h e.0), each_row l r.1 (λ k. go k (by_bytes.cmp k e.0) refl (h k)))
    where
      go : (k : Text) (c : Ordering) → by_bytes.cmp k e.0 ≡ c → IfGiven (P k) (choose c (Some e.1) (lookup by_bytes k l)) → IfGiven (P k) (lookup by_bytes k l)
      go k Less d i = i
      go k Greater d i = i
      go k Equal d i = rw (by_bytes.same k e.0 d, lookup-under by_bytes e.0 l r.0) tt

pub rows-stand-all : {A : Type 0} (img : List ℕ) (m : Started A) → Standing img m → Every (λ e. Stands img e.0 e.1.0) m.rows
unfolding get
rows-stand-all img m h = each_row (λ k x. Stands img k x.0) m.rows m.rising h
