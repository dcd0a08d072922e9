-- The nodes that fold makes of stacks, by rising inode. Document 01: "Snapshot folds every layer, then drops non-directories with 0 links".
use Rattle.std.specs.Prelude.{◌≡◌, Bool, true, false, cond, List, [], ◌∷◌, ◌++◌, ℕ, ◌+◌, length, drop, Result, Ok, None, Option, Some}
use Rattle.wire.specs.Maps.{sift}
use Rattle.wire.specs.Number.{number_bytes}
use Rattle.wire.specs.Parse.{got}
use Rattle.wire.specs.declared.fault.Fault.{Fault}
use Rattle.wire.specs.Put.{Put}
use Rattle.image.specs.Meaning as M
use Rattle.image.specs.Meaning.{kind_of}
use Rattle.image.specs.FieldLayout.{inode}
use Rattle.image.specs.FileTypes.{kind_meant}
use Rattle.image.specs.declared.kind.FileType.{FileType}
use Rattle.image.specs.NodeLayout.{node}
use Rattle.rules.specs.Initial.{usual}
use Rattle.rules.specs.Queue.{kept}
use Rattle.rules.proofs.Folded.{folded}
use Rattle.nodes.specs.Nodes.{body_meant}
use Rattle.nodes.specs.declared.node.Node.{Node}
use Rattle.merge.specs.Pile.{row}
use Rattle.walk.specs.Walks.{Pieces}
use Rattle.wire.specs.declared.put.Written.{Written}

-- ---- which nodes there are

-- all, or those that a snapshot keeps
abbrev pub kept_if : Bool → Option M.Node → Option M.Node
kept_if true o = sift kept o
kept_if false o = o

-- of a node with these links and of this type
pub record Keeps (links : ℕ) (t : FileType) (b : Bool) : Type 0 where
  pub says : (m : M.Node) → m.meta.links ≡ links → kind_meant t ≡ kind_of m.body → b ≡ kept m

-- links and kind are those of a node by value
pub record Like (img : List ℕ) (n : Node) (m : M.Node) : Type 0 where
  pub links : m.meta.links ≡ n.meta.nlink
  pub kind : kind_of (body_meant img n.kind) ≡ kind_of m.body

pub record Stays (n : Node) (drops b : Bool) : Type 0 where
  pub says : (img : List ℕ) (m : M.Node) → Like img n m → kept_if drops (Some m) ≡ cond b (Some m) None

-- the node that is read at a place, by its kind and links
pub record KeptAt (img : List ℕ) (p : ℕ) (r : Result Bool Fault) : Type 0 where
  pub is : (m : M.Node) (t : List ℕ) → node.read (drop p img) ≡ got m t → r ≡ Ok (kept m)

pub record StaysAt (img : List ℕ) (p : ℕ) (drops b : Bool) : Type 0 where
  pub says : (m : M.Node) (t : List ℕ) → node.read (drop p img) ≡ got m t → kept_if drops (Some m) ≡ cond b (Some m) None

abbrev pub count_if : Option M.Node → ℕ
count_if None = 0
count_if (Some m) = 1

-- the nodes of stacks, each folded
unfoldable pub nodes_of : Bool → List (ℕ × Pieces) → List (ℕ × M.Node)
nodes_of drops [] = []
nodes_of drops (e ∷ l) = row e.0 (kept_if drops (folded usual e.1.0 e.1.1)) (nodes_of drops l)

-- ---- as they are written

-- "inode; kind ..."
abbrev pub row_bytes : ℕ → Option M.Node → List ℕ
row_bytes i None = []
row_bytes i (Some m) = inode.write i ++ node.write m

unfoldable pub nodes_bytes : List (ℕ × M.Node) → List ℕ
nodes_bytes [] = []
nodes_bytes (e ∷ l) = (inode.write e.0 ++ node.write e.1) ++ nodes_bytes l

-- one node, or none, after those so far
pub record PutsRow (old : List ℕ) (so_far : Written) (i : ℕ) (o : Option M.Node) (r : Written) (new : List ℕ) : Type 0 where
  pub puts : Put old so_far.end (row_bytes i o) r.end new
  pub counts : r.count ≡ so_far.count + count_if o

pub record PutsNodes (old : List ℕ) (at : ℕ) (l : List (ℕ × M.Node)) (r : Written) (new : List ℕ) : Type 0 where
  pub puts : Put old at (nodes_bytes l) r.end new
  pub counts : r.count ≡ length l

-- "Every list has its count first"
abbrev pub base_bytes : Bool → List (ℕ × Pieces) → List ℕ
base_bytes drops l = number_bytes (length (nodes_of drops l)) ++ nodes_bytes (nodes_of drops l)
