-- The stack of an inode, as places in the image.
use Rattle.image.specs.declared.kind.FileType.{FileType}
use Rattle.std.specs.Prelude.{IfSome, ◌≡◌, List, [], ℕ, ◌≤◌, length, take, drop, Ok, None, Option, Some}
use Rattle.std.specs.List.{AllByRecursion, AllByRecursion-prop}
use Rattle.std.specs.Coded.{le_prop}
use Rattle.std.proofs.Math.Nat.{ℕ_set}
use Rattle.wire.specs.Parse.{Parsed, fault, got}
use Rattle.survey.specs.declared.batch.InodeLayerStack.{InodeLayerStack}
use Rattle.image.specs.Meaning.{Kind, Node, Record}
use Rattle.image.specs.NodeLayout.{node}
use Rattle.image.specs.RecordLayout.{layer_record}
use Rattle.survey.specs.Gathering.{deltas_of}
use Rattle.rules.specs.Starts.{Placed}
use Rattle.rules.specs.PlacedStacks.{records_on, node_at, unplaced, unplaced_node}
use Rattle.rules.specs.Reads.{Read, look}
use Rattle.nodes.specs.declared.node.Node as N
use Rattle.deltas.specs.declared.delta.EntryDelta.{EntryDelta}
use Rattle.nodes.specs.Nodes.{node_meant, ReadsNode}
use Rattle.deltas.specs.Deltas.{ReadsEntry}
use Rattle.image.specs.FileTypes.{kind_meant}

-- something is read
abbrev pub IsRead : {A : Type 0} → Parsed A → Type 0
IsRead (fault f) = ⊥
IsRead (got a r) = Unit {0}

-- and at each place
abbrev pub AllRead : List ℕ → List ℕ → Type 0
AllRead img ps = AllByRecursion (λ (p : ℕ). IsRead (layer_record.read (drop p img))) ps

abbrev pub NodeRead : List ℕ → Option ℕ → Type 0
NodeRead img o = IfSome o (λ p. IsRead (node.read (drop p img)))

-- the places of a stack hold a node and records of the image
pub record Stacked (img : List ℕ) (s : InodeLayerStack) : Type 0 where
  pub node : NodeRead img s.base
  pub records : AllRead img (deltas_of s)
  pub few : s.count ≤ 17
  pub wide : length s.deltas ≡ 17

-- which can be said in one way alone
pub is_read-prop : {A : Type 0} (o : Parsed A) → IsProp (IsRead o)
is_read-prop (fault f) = hlevel
is_read-prop (got a r) = hlevel

all_read-prop : (img ps : List ℕ) → IsProp (AllRead img ps)
all_read-prop img ps = AllByRecursion-prop (λ (p : ℕ). IsRead (layer_record.read (drop p img))) (λ p. is_read-prop (layer_record.read (drop p img))) ps

node_read-prop : (img : List ℕ) (p : Option ℕ) → IsProp (NodeRead img p)
node_read-prop img None = hlevel
node_read-prop img (Some p) = is_read-prop (node.read (drop p img))

pub Stacked-prop : (img : List ℕ) (s : InodeLayerStack) → IsProp (Stacked img s)
Stacked-prop img s = hlevel (le_prop, ℕ_set, all_read-prop, node_read-prop)

-- the lowest i records of a stack, topmost first
abbrev pub records_under : List ℕ → InodeLayerStack → ℕ → List (Placed Record)
records_under img s i = records_on img (take i s.deltas) []

-- all its records, and its node
abbrev pub records_in : List ℕ → InodeLayerStack → List (Placed Record)
records_in img s = records_under img s s.count

abbrev pub node_in : List ℕ → InodeLayerStack → Option (Placed Node)
node_in img s = node_at img s.base

-- what a read makes of the lowest i records and the node, and of the whole stack
abbrev pub shown_under : {X : Type 0} → Read X → List ℕ → InodeLayerStack → ℕ → X
shown_under R img s i = look R (unplaced (records_under img s i)) (unplaced_node (node_in img s))

abbrev pub shown : {X : Type 0} → Read X → List ℕ → InodeLayerStack → X
shown R img s = shown_under R img s s.count

-- ---- what stands at the places of a stack, by value

-- a record was read whole
pub record RecordIs (img : List ℕ) (p : ℕ) (e : EntryDelta) : Type 0 where
  pub end : ℕ
  pub reads : ReadsEntry img p (Ok (e, end))

pub record NodeIs (img : List ℕ) (p : ℕ) (n : N.Node) : Type 0 where
  pub end : ℕ
  pub reads : ReadsNode img p (Ok (n, end))

-- the node at a place; no place, no node
abbrev pub BaseIs : List ℕ → Option ℕ → Option N.Node → Type 0
BaseIs img None None = Unit {0}
BaseIs img None (Some n) = ⊥
BaseIs img (Some p) None = ⊥
BaseIs img (Some p) (Some n) = NodeIs img p n

abbrev pub node_meant_if : List ℕ → Option N.Node → Option Node
node_meant_if img None = None
node_meant_if img (Some n) = Some (node_meant img n)

abbrev pub type_of : Option FileType → Option Kind
type_of (Some t) = Some (kind_meant t)
type_of None = None
