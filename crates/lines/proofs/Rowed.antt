-- The rows of a base in its image: the first place, and one row after the other.
-- Assumes nothing.
use Rattle.std.specs.Prelude.{Result, Ok, Err, None, Some}
use Rattle.std.specs.Result.{result_unwrap_or}
use mathlib.Core.Path.{◌≡◌, refl, ap, ◌∙◌}
use mathlib.Core.List.{List, ◌∷◌, ◌++◌}
use Prim.Native.Nat.{ℕ, suc, ◌+◌, ◌-◌, ◌<◌}
use native.Mathlib.Omega.{arith}
use lib.ListN.{length}
use Rattle.wire.specs.declared.fault.Fault.{Fault}
use Rattle.wire.specs.Combinators.{◌then◌}
use Rattle.wire.specs.Number.{number_bytes, number_to}
use Rattle.wire.specs.Orders.{by_number}
use Rattle.wire.specs.Lists.{last_count}
use Rattle.wire.specs.Reading.{meant}
use Rattle.image.specs.Meaning as M
use Rattle.image.specs.Meaning.{Base}
use Rattle.image.specs.FieldLayout.{inode}
use Rattle.image.specs.NodeLayout.{node, base}
use Rattle.nodes.specs.Nodes.{node_meant}
use Rattle.nodes.specs.declared.node.Node.{Node}
use Rattle.rules.specs.FileAttrs.{base_attr}
use Rattle.attrs.specs.Meant.{attr_meant}
use Rattle.attrs.specs.Attrs.{LinkIn}
use Rattle.attrs.specs.declared.node.FileAttr.{FileAttr}
use Rattle.change.specs.Sections.{Spans}
use Rattle.change.proofs.Sections.{span-front, span-back, span-reads, value-is}
use Rattle.change.specs.Cuts.{rows_bytes}
use Rattle.change.proofs.Cutting.{chain-rows}
use Rattle.lines.specs.Rows.{Listed, Gives, row_meant, ReadsRow}
use Rattle.image.specs.declared.rows.Rows.{Rows}
use Rattle.image.specs.Rows.{RowsAt}
use Rattle.image.proofs.Listed.{rows-read}
use Rattle.lines.specs.declared.inodes.BaseRows.{BaseRows}

-- ---- a base is its count and its rows

pub base-bytes : (b : Base) → base.write b ≡ number_bytes (length b.rows) ++ rows_bytes inode node b.rows
base-bytes b = ap (λ (t : List ℕ). number_bytes (length b.rows) ++ t) (chain-rows by_number inode node None b.rows)

-- of an image that begins with a base, the rows of the base
pub rows-first : {img : List ℕ} {rows : Rows} → RowsAt img last_count 0 rows → (b : Base) (end : ℕ) → base.Fits b → Spans img 0 (base.write b) end
    → Listed img rows b.rows
rows-first {img} {rows} a b end f w =
    let v = rw (base-bytes b) at w in
    let o = rows-read a in
    let g = value-is (0, 0) (span-reads (number_to last_count refl) (span-front (number_bytes (length b.rows)) (rows_bytes inode node b.rows) v)
    (omega (arith, f.count)) o.1) o.2 in
    let at : rows.first ≡ 0 + length (number_bytes (length b.rows)) = ap (λ (x : ℕ × ℕ). x.1) g in
    record {
      end = end;
      spans = rw at (span-back (number_bytes (length b.rows)) (rows_bytes inode node b.rows) v);
      count = ap (λ (x : ℕ × ℕ). x.0) g;
      fits = f.each;
    }

-- ---- one row

-- where the rows go on
abbrev after : Rows → ℕ × M.Node → ℕ
after rows e = rows.first + length ((inode then node).write e)

module _ {img : List ℕ} {rows : Rows} {o : Result ((ℕ × Node) × ℕ) Fault} (k : ReadsRow img rows.first o) where
  module _ {e : ℕ × M.Node} {l : List (ℕ × M.Node)} (s : Listed img rows (e ∷ l)) where
    row-spans : Spans img rows.first ((inode then node).write e ++ rows_bytes inode node l) s.end
    unfolding rows_bytes
    row-spans = s.spans

    row-is : meant (row_meant img) o ≡ Ok (e, after rows e)
    row-is = span-reads (inode then node) (span-front ((inode then node).write e) (rows_bytes inode node l) row-spans) s.fits.0 k.reads

    rest-spans : Spans img (after rows e) (rows_bytes inode node l) s.end
    rest-spans = span-back ((inode then node).write e) (rows_bytes inode node l) row-spans

  unread : {f : Fault} → o ≡ Err f → (e : ℕ × M.Node) (l : List (ℕ × M.Node)) → Listed img rows (e ∷ l) → ⊥
  unread d e l s = let e = rw d at (row-is s) in cc

  -- the inode and its node
  module _ {i : ℕ} {n : Node} {next : ℕ} (d : o ≡ Ok ((i, n), next)) where
    taken : {e : ℕ × M.Node} {l : List (ℕ × M.Node)} (s : Listed img rows (e ∷ l)) → ((i, node_meant img n) ≡ e) × (next ≡ after rows e)
    taken {e} s =
        let c = rw d at (row-is s) in
        let back : Result ((ℕ × M.Node) × ℕ) Fault → (ℕ × M.Node) × ℕ = λ r. result_unwrap_or r (e, 0) in
        (ap (λ r. (back r).0) c, ap (λ r. (back r).1) c)

    left-rows : {count : ℕ} → count ≡ rows.count - 1 → (e : ℕ × M.Node) (l : List (ℕ × M.Node)) → Listed img rows (e ∷ l)
        → Listed img (record { first = next; count = count }) l
    left-rows q e l s = record {
      end = s.end;
      spans = rw (taken s).1 (rest-spans s);
      count = let z : rows.count ≡ suc (length l) = s.count in omega (arith, q, z);
      fits = s.fits.1;
    }

module _ (r : BaseRows) {o : Result ((ℕ × Node) × ℕ) Fault} (k : ReadsRow r.img.now r.rows.first o) where
  pub row-stops : (after : BaseRows) {f : Fault} → o ≡ Err f → Gives r None after
  row-stops after d = unread k d

  pub row-gives : {i : ℕ} {n : Node} {next count : ℕ} (a : FileAttr) → o ≡ Ok ((i, n), next) → 0 < r.rows.count → count ≡ r.rows.count - 1
      → ((m : List ℕ) → LinkIn m n.kind → Some (attr_meant a) ≡ base_attr i (Some (node_meant m n)))
      → Gives r (Some a) (record { img = r.img; rows = record { first = next; count = count } })
  row-gives a d more q h = record {
    more = more;
    left = q;
    attr = λ e l s. h r.img.now (rw d at k).link ∙ ap (λ (x : ℕ × M.Node). base_attr x.0 (Some x.1)) (taken k d s).0;
    rest = left-rows k d q;
  }
