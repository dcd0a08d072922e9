-- The inodes of a snapshot in its image, one after the other, and how the pieces that the program writes make up the whole.
use Rattle.std.specs.Prelude.{◌≡◌, List, [], ◌∷◌, ◌++◌, ℕ, ◌-◌, ◌<◌, ◌≤◌, length, take, Result, Ok, Err, IfOk, None, Option, Some}
use Rattle.wire.specs.declared.fault.Fault.{Fault}
use Rattle.wire.specs.Combinators.{◌then◌}
use Rattle.wire.specs.Reading.{Reads, meant}
use Rattle.wire.specs.Put.{Put}
use Rattle.wire.specs.Lists.{Every}
use Rattle.image.specs.Meaning.{Node, Store}
use Rattle.image.specs.FieldLayout.{inode}
use Rattle.image.specs.NodeLayout.{node}
use Rattle.change.specs.Cuts.{rows_bytes}
use Rattle.change.specs.Sections.{Spans}
use Rattle.survey.specs.Verdict.{numbered}
use Rattle.survey.specs.declared.refusal.Refusal.{Refusal}
use Rattle.nodes.specs.Nodes.{node_meant}
use Rattle.nodes.specs.declared.node.Node as N
use Rattle.attrs.specs.Attrs.{LinkIn}
use Rattle.rules.specs.Initial.{usual}
use Rattle.rules.specs.Answers.{Answer, refused, answer}
use Rattle.rules.specs.ChangeCalls.{snapshot_all, written}
use Rattle.lines.specs.Lines.{line, snapshot_of}
use Rattle.rules.specs.FileAttrs.{base_attr}
use Rattle.attrs.specs.Meant.{attr_meant}
use Rattle.attrs.specs.declared.node.FileAttr.{FileAttr}
use Rattle.image.specs.declared.rows.Rows.{Rows}
use Rattle.lines.specs.declared.inodes.BaseRows.{BaseRows}

-- these inodes with their nodes stand in the image, from the place on: "Base: by rising inode: inode; kind .."
pub record Listed (img : List ℕ) (r : Rows) (l : List (ℕ × Node)) : Type 0 where
  pub end : ℕ
  pub spans : Spans img r.first (rows_bytes inode node l) end
  pub count : r.count ≡ length l
  pub fits : Every (λ e. inode.Fits e.0 × node.Fits e.1) l

-- inodes stand there, as many as are said to be left
abbrev pub HasRows : List ℕ → Rows → Type 0
HasRows img r = (l : List (ℕ × Node)) × Listed img r l

-- the refusal, or the inodes of the snapshot
abbrev pub OpensTo : Answer Store → Result Rows Refusal → List ℕ → Type 0
OpensTo (refused n) r new = numbered r ≡ Err n
OpensTo (answer s) r new = (rows : Rows) × (r ≡ Ok rows) × Listed new rows s.base.rows

-- the target has the snapshot's image
pub record OpensListing (img old : List ℕ) (r : Result Rows Refusal) (new : List ℕ) : Type 0 where
  pub opens : OpensTo (snapshot_of (length old) img) r new
  pub leaves : new ≡ written (snapshot_all usual img (length old)) old

-- an inode and its node were read
abbrev pub row_meant : List ℕ → ℕ × N.Node → ℕ × Node
row_meant img r = (r.0, node_meant img r.1)

pub record ReadsRow (img : List ℕ) (at : ℕ) (r : Result ((ℕ × N.Node) × ℕ) Fault) : Type 0 where
  pub reads : Reads img (inode then node).read at (meant (row_meant img) r)
  pub link : IfOk r (λ x. LinkIn img x.0.1.kind)

-- the attributes of the first of the inodes, and the inodes after it; one less is left, whatever stands there
pub record NextInode (rows : BaseRows) (a : FileAttr) (after : BaseRows) : Type 0 where
  pub more : 0 < rows.rows.count
  pub left : after.rows.count ≡ rows.rows.count - 1
  pub attr : (e : ℕ × Node) (l : List (ℕ × Node)) → Listed rows.img.now rows.rows (e ∷ l) → Some (attr_meant a) ≡ base_attr e.0 (Some e.1)
  pub rest : (e : ℕ × Node) (l : List (ℕ × Node)) → Listed rows.img.now rows.rows (e ∷ l) → Listed after.img.now after.rows l

-- none, only where no inode stands
abbrev pub Gives : BaseRows → Option FileAttr → BaseRows → Type 0
Gives rows None after = (e : ℕ × Node) (l : List (ℕ × Node)) → Listed rows.img.now rows.rows (e ∷ l) → ⊥
Gives rows (Some a) after = NextInode rows a after

-- ---- the whole

-- no line is longer
abbrev pub longest : ℕ
longest = 94

-- What is written after the heading, line by line, each from the start of a buffer that has room for it, until no inode is left.
pub data Pieces : BaseRows → List ℕ → Type 0 where
  done : {r : BaseRows} (after : BaseRows) → Gives r None after → Pieces r []
  piece : {r after : BaseRows} {a : FileAttr} {old new : List ℕ} {end : ℕ} {bytes : List ℕ} → Gives r (Some a) after → longest ≤ length old
      → Put old 0 (line (attr_meant a)) end new → Pieces after bytes
      → Pieces r (take end new ++ bytes)
