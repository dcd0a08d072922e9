-- One list of attribute changes put over another, row by row.
-- Assumes nothing.
use Rattle.std.specs.Prelude.{None, Option, Some}
use mathlib.Core.Path.{◌≡◌, refl, sym, ap, ◌∙◌}
use mathlib.Core.List.{List, [], ◌∷◌, ◌++◌, append_assoc}
use Prim.Native.Nat.{ℕ, suc}
use native.Mathlib.Omega.{arith}
use lib.ListN.{length, drop}
use Rattle.wire.specs.Order.{Order}
use Rattle.wire.specs.Orders.{by_bytes}
use Rattle.wire.specs.Rows.{Under, Rising}
use Rattle.wire.specs.Maps.{Map, over, put, merge}
use Rattle.wire.specs.Combinators.{opt_write}
use Rattle.wire.specs.Number.{number_bytes, number_read, number_to}
use Rattle.wire.specs.Lists.{Every, FitsRow, last_count}
use Rattle.image.specs.declared.name.Under.TheVariants as U
use Rattle.image.specs.Masks.{maybe}
use Rattle.image.specs.FieldLayout.{name, value}
use Rattle.image.specs.RecordLayout.{changes}
use Rattle.nodes.specs.Listed.{list_at, list_of, Listed, ListedIf}
use Rattle.wire.specs.declared.part.Part.{Part}
use Rattle.writers.proofs.Writing.{list_written}
use Rattle.records.proofs.Records.{list-bytes}
use Rattle.rules.specs.Changes.{merge_changes}
use Rattle.change.specs.Cuts.{rows_below, rows_above, rows_bytes}
use Rattle.meld.specs.Merged.{melded, ChangeRow, or_end, rows_read, rows_at, merged_rows, merged_bytes, changes_anew}
use Rattle.change.specs.Edits.{edit_rows, put_all}
use Rattle.change.proofs.Cutting.{chain-rows}
use Rattle.change.proofs.EditRows.{put-rows}
use Rattle.image.proofs.OneForm.{changes-one}

-- ---- rising lists

module _ {K A : Type 0} where
  -- rows that are all there afterwards
  abbrev somes : List (K × A) → List (K × Option A)
  somes [] = []
  somes (e ∷ l) = (e.0, Some e.1) ∷ somes l

module _ {K A : Type 0} (O : Order K) where
  under-somes : (k : K) (l : List (K × A)) → Under O k l → Under O k (somes l)
  under-somes k [] u = tt
  under-somes k (e ∷ l) u = (u.0, under-somes k l u.1)

  rising-somes : (l : List (K × A)) → Rising O l → Rising O (somes l)
  rising-somes [] r = tt
  rising-somes (e ∷ l) r = (under-somes e.0 l r.0, rising-somes l r.1)

  over-somes : (l : List (K × A)) (m : Map O A) → over O (λ k c o. Some c) l m ≡ put_all O (somes l) m
  unfolding over
  over-somes [] m = refl
  over-somes (e ∷ l) m = ap (put O e.0 (Some e.1)) (over-somes l m)

  melded-edits : (l m : List (K × A)) → edit_rows O (somes l) m ≡ melded O l m
  unfolding edit_rows melded
  melded-edits [] m = refl
  melded-edits (e ∷ l) m = ap (λ (x : List (K × A)). rows_below O e.0 m ++ (e ∷ x)) (melded-edits l (rows_above O e.0 m))

  -- one list put over another
  pub merge-rows : (new old : Map O A) → (merge O (λ k c o. Some c) new old).rows ≡ melded O new.rows old.rows
  unfolding merge
  merge-rows new old =
      ap (λ (m : Map O A). m.rows) (over-somes new.rows old)
      ∙ put-rows O (somes new.rows) old (rising-somes new.rows new.rising)
      ∙ melded-edits new.rows old.rows

-- ---- lists in bytes

rows_back : (l : List ChangeRow) (r : List ℕ) → Every (FitsRow by_bytes name (maybe value)) l → rows_read (length l) (rows_bytes name (maybe value) l ++ r) ≡ l
unfolding rows_read rows_bytes
rows_back [] r f = refl
rows_back (e ∷ l) r f =
    let k = name.write e.0 in
    let v = (maybe value).write e.1 in
    let t = rows_bytes name (maybe value) l ++ r in
    let z : ((k ++ v) ++ rows_bytes name (maybe value) l) ++ r ≡ k ++ (v ++ t) = simp append_assoc in
    ap (rows_read (suc (length l))) z
    ∙ rw (name.back e.0 (v ++ t) f.0.0, (maybe value).back e.1 t f.0.1) (ap (λ (m : List ChangeRow). e ∷ m) (rows_back l r f.1))

-- the rows of a list that stands there
list-rows : {bytes : List ℕ} {p : Part} {end : ℕ} → Listed bytes U.Change p end → rows_at bytes p.start ≡ (list_at bytes U.Change p).rows
list-rows {bytes} {p} {end} h =
    let m = list_at bytes U.Change p in
    let l = m.rows in
    let t = drop end bytes in
    let f = changes-one.forth (drop p.start bytes) m t h.is in
    let e : drop p.start bytes ≡ number_bytes (length l) ++ (rows_bytes name (maybe value) l ++ t) =
    f.0 ∙ ap (λ (x : List ℕ). (number_bytes (length l) ++ x) ++ t) (chain-rows by_bytes name (maybe value) None l)
    ∙ append_assoc (number_bytes (length l)) (rows_bytes name (maybe value) l) t in
    ap (λ (s : List ℕ). or_end (number_read last_count s) rows_read) e
    ∙ rw ((number_to last_count refl).back (length l) (rows_bytes name (maybe value) l ++ t) (omega (arith, f.1.count))) (rows_back l t f.1.each)

merged-written : {img given : List ℕ} {n o : Part} {x y : ℕ} → Listed given U.Change n x → Listed img U.Change o y
    → merged_bytes img given n.start o.start ≡ changes.write (merge by_bytes (λ name change o. Some change) (list_at given U.Change n) (list_at img U.Change o))
merged-written {img} {given} {n} {o} h k =
    let new = list_at given U.Change n in
    let old = list_at img U.Change o in
    let both = merge by_bytes (λ name change o. Some change) new old in
    let e : merged_rows img given n.start o.start ≡ both.rows = (λ j. melded by_bytes (list-rows h j) (list-rows k j)) ∙ sym (merge-rows by_bytes new old) in
    ap (λ (l : List ChangeRow). number_bytes (length l) ++ rows_bytes name (maybe value) l) e
    ∙ ap (λ (t : List ℕ). number_bytes (length both.rows) ++ t) (sym (chain-rows by_bytes name (maybe value) None both.rows))

-- "attribute by attribute"
pub changes-written : (img given : List ℕ) (new old : Option Part) (x y : ℕ) → ListedIf given U.Change new x → ListedIf img U.Change old y
    → changes_anew img given new old ≡ opt_write changes (merge_changes (list_of given U.Change new) (list_of img U.Change old))
changes-written img given (Some n) (Some o) x y h k = merged-written h k
changes-written img given (Some n) None x y h k = list_written U.Change h
changes-written img given None old x y h k = list-bytes img y old k
