-- What the program writes, piece by piece, is the whole listing.
-- Assumes nothing.
use Rattle.std.specs.Prelude.{Option, None, Some, Ok, Err}
use mathlib.Core.Path.{◌≡◌, refl, ap, ◌∙◌}
use mathlib.Core.List.{List, [], ◌∷◌, ◌++◌}
use mathlib.Core.Bool.{Bool, true, false, ◌&&◌, cond}
use Prim.Native.Nat.{ℕ, zero, suc, ◌+◌, ◌-◌, ◌/◌, ◌%◌, ◌≤◌}
use native.Mathlib.Omega.{arith}
use lib.Dec.{eqb}
use lib.ListN.{length, take, drop, length-append}
use lib.Seq.{take_at}
use Rattle.wire.specs.Put.{Put}
use Rattle.wire.proofs.Puts.{put_whole}
use Rattle.image.specs.Meaning as M
use Rattle.image.specs.Meaning.{Store}
use Rattle.rules.specs.Answers.{Answer, refused, answer}
use Rattle.rules.specs.FileAttrs.{FileAttr, base_attr}
use Rattle.lines.specs.Digits.{glyph, digits}
use Rattle.lines.specs.Lines.{heading, line, line_if, line_of, lines_of, refusal, snapshot_of, listing, listing_bytes}
use Rattle.lines.specs.Rows.{Listed, HasRows, OpensTo, OpensListing, NextInode, longest, Pieces, done, piece}
use Rattle.image.specs.declared.rows.Rows.{Rows}
use Rattle.attrs.specs.Meant.{attr_meant}
use Rattle.attrs.specs.declared.node.FileAttr as D
use Rattle.lines.specs.declared.inodes.BaseRows.{BaseRows}
use Rattle.survey.specs.Verdict.{number_of}
use Rattle.survey.specs.declared.refusal.Refusal.{Refusal}

-- ---- no line is longer than 94 bytes

digits-few : (base most least n : ℕ) → length (digits base most least n) ≤ most
unfolding digits
digits-few base zero least n = omega arith
digits-few base (suc most) least n = go (eqb n 0 && eqb least 0) (digits-few base most (least - 1) (n / base))
  where
    go : (b : Bool) → length (digits base most (least - 1) (n / base)) ≤ most
        → length (cond b [] (digits base most (least - 1) (n / base) ++ (glyph (n % base) ∷ []))) ≤ suc most
    go true h = omega arith
    go false h = simp length-append (omega arith)

pub line-short : (a : FileAttr) → length (line a) ≤ longest
line-short a =
    simp length-append
    (omega (arith, digits-few 10 22 1 a.inode, digits-few 8 22 4 a.perm, digits-few 10 22 1 a.links, digits-few 10 22 1 a.size))

pub line-of-short : (e : ℕ × M.Node) → length (line_of e) ≤ longest
line-of-short e = go (base_attr e.0 (Some e.1))
  where
    go : (o : Option FileAttr) → length (line_if o) ≤ longest
    go None = omega arith
    go (Some a) = line-short a

pub refusal-short : (n : ℕ) → length (refusal n) ≤ longest
refusal-short n = simp length-append (omega (arith, digits-few 10 22 1 n))

-- ---- the pieces

-- what was written at the start of a buffer that has room for it
pub put-start : {old new bs : List ℕ} {n : ℕ} → Put old 0 bs n new → length bs ≤ length old → take n new ≡ bs
put-start {old} {new} {bs} {n} p h =
    let e : n ≡ 0 + length bs = omega (arith, p.to, p.short) in
    rw (put_whole p (omega arith)) (take_at bs (drop n old) n (omega arith))

-- after the heading, the lines of the inodes that are left
pub pieces-lines : (l : List (ℕ × M.Node)) (r : BaseRows) (bytes : List ℕ) → Listed r.img.now r.rows l → Pieces r bytes → bytes ≡ lines_of l
unfolding lines_of
pieces-lines [] r bytes h (done after g) = refl
pieces-lines [] r bytes h (piece g room p rest) = absurd (let z : r.rows.count ≡ 0 = h.count in omega (arith, g.more, z))
pieces-lines (e ∷ l) r bytes h (done after g) = absurd (g e l h)
pieces-lines (e ∷ l) r bytes h (piece {after = t} {a = a} {bytes = rest} g room p others) =
    let here : line (attr_meant a) ≡ line_of e = ap line_if (g.attr e l h) in
    rw (put-start p (omega (arith, line-short (attr_meant a))), here, pieces-lines l t rest (g.rest e l h) others)

-- where what was written at the start of a buffer ends
pub put-ends : {old new bs : List ℕ} {n : ℕ} → Put old 0 bs n new → length bs ≤ longest → n ≤ longest
put-ends p h = omega (arith, p.to)

-- ---- inodes stand wherever the program reads one

pub opened_rows : {img old new : List ℕ} {rows : Rows} → OpensListing img old (Ok rows) new → HasRows new rows
opened_rows {img} {old} {new} {rows} o = go (snapshot_of (length old) img) o.opens
  where
    go : (a : Answer Store) → OpensTo a (Ok rows) new → HasRows new rows
    go (refused n) d = cc
    go (answer s) d = let e : rows ≡ d.0 = cc in (s.base.rows, rw e d.2)

pub next-rows : {r after : BaseRows} {a : D.FileAttr} → HasRows r.img.now r.rows → NextInode r a after → HasRows after.img.now after.rows
next-rows {r} {after} h n = go h.0 h.1
  where
    go : (l : List (ℕ × M.Node)) → Listed r.img.now r.rows l → HasRows after.img.now after.rows
    go [] s = absurd (let z : r.rows.count ≡ 0 = s.count in omega (arith, n.more, z))
    go (e ∷ l) s = (l, n.rest e l s)

-- ---- the whole: all that is written, in either case, is `listing_bytes` of the image

module _ {img old : List ℕ} (lent : length old ≡ 65536) {buf line : List ℕ} {n : ℕ} (room : longest ≤ length buf) where
  -- the heading, and a piece for each inode
  pub whole : {r : BaseRows} {bytes : List ℕ} → OpensListing img old (Ok r.rows) r.img.now → Put buf 0 heading n line → Pieces r bytes
      → take n line ++ bytes ≡ listing_bytes img
  whole {r} {bytes} o h p =
      rw (put-start h (omega arith)) (go (snapshot_of 65536 img) (rw lent at o.opens))
    where
      go : (a : Answer Store) → OpensTo a (Ok r.rows) r.img.now → heading ++ bytes ≡ listing a
      go (refused n) d = cc
      go (answer s) d =
          let e : r.rows ≡ d.0 = cc in
          ap (λ (t : List ℕ). heading ++ t) (pieces-lines s.base.rows r bytes (rw e d.2) p)

  -- or only the refusal
  pub whole-refused : {new : List ℕ} {e : Refusal} → OpensListing img old (Err e) new → Put buf 0 (refusal (number_of e)) n line
      → take n line ≡ listing_bytes img
  whole-refused {new} {e} o h = put-start h (omega (arith, refusal-short (number_of e))) ∙ go (snapshot_of 65536 img) (rw lent at o.opens)
    where
      go : (a : Answer Store) → OpensTo a (Err e) new → refusal (number_of e) ≡ listing a
      go (refused k) d = let z : number_of e ≡ k = cc in ap refusal z
      go (answer s) d = let y = d.1 in cc
