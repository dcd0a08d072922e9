-- Document 01: "Base: by rising inode: inode; kind 0 to 6; perm, links, owner, group; atime, mtime, ctime; attributes (name, value)
-- rising; then parent and entries (name, inode) rising, or size, or target, or device, or nothing, by kind."
use Rattle.std.specs.Prelude.{ℕ, ◌≡◌, refl}
use Rattle.wire.specs.declared.time.Time.{Time}
use Rattle.wire.specs.Codec.{Codec}
use Rattle.wire.specs.Combinators.{nothing, seq, ◌then◌, via, restated}
use Rattle.wire.specs.Orders.{by_number}
use Rattle.image.specs.Meaning.{Text, Kind, Body, Meta, Node, Base, Entries, Attributes, pipe, character, block, socket, directory, file, symlink, special, kind_of}
use Rattle.image.specs.Fits.{FitsMeta, FitsBody, FitsNode}
use Rattle.image.specs.FieldLayout.{inode, word, size, target, moment, listed, entries, attributes}
use Rattle.image.specs.KindLayout.{kind}

-- "perm, links, owner, group; atime, mtime, ctime; attributes"
abbrev pub MetaParts : Type 0
MetaParts = ℕ × (ℕ × (ℕ × (ℕ × (Time × (Time × (Time × Attributes))))))

abbrev pub meta_of : MetaParts → Meta
meta_of p = record {
  perm = p.0;
  links = p.1.0;
  owner = p.1.1.0;
  group = p.1.1.1.0;
  atime = p.1.1.1.1.0;
  mtime = p.1.1.1.1.1.0;
  ctime = p.1.1.1.1.1.1.0;
  attributes = p.1.1.1.1.1.1.1;
}

abbrev pub meta_parts : Meta → MetaParts
meta_parts m = (m.perm, (m.links, (m.owner, (m.group, (m.atime, (m.mtime, (m.ctime, m.attributes)))))))

unfoldable pub meta : Codec Meta
meta =
    restated FitsMeta
    (via meta_of meta_parts (λ m. refl) (word then word then word then word then moment then moment then moment then attributes) (λ p h. refl))
    (λ m h. (h.perm, (h.links, (h.owner, (h.group, (h.atime, (h.mtime, (h.ctime, h.attributes))))))))
    (λ m h. record {
      perm = h.0;
      links = h.1.0;
      owner = h.1.1.0;
      group = h.1.1.1.0;
      atime = h.1.1.1.1.0;
      mtime = h.1.1.1.1.1.0;
      ctime = h.1.1.1.1.1.1.0;
      attributes = h.1.1.1.1.1.1.1;
    })

-- what a node has by its kind
abbrev pub BodyPart : Kind → Type 0
BodyPart directory = ℕ × Entries
BodyPart file = ℕ
BodyPart symlink = Text
BodyPart (special pipe) = Unit {0}
BodyPart (special character) = ℕ
BodyPart (special block) = ℕ
BodyPart (special socket) = Unit {0}

abbrev pub body_part : (k : Kind) → Codec (BodyPart k)
body_part directory = inode then entries
body_part file = size
body_part symlink = target
body_part (special pipe) = nothing
body_part (special character) = word
body_part (special block) = word
body_part (special socket) = nothing

abbrev pub body_of : (k : Kind) → BodyPart k → Body
body_of directory p = directory p.0 p.1
body_of file p = file p
body_of symlink p = symlink p
body_of (special pipe) p = special pipe
body_of (special character) p = special (character p)
body_of (special block) p = special (block p)
body_of (special socket) p = special socket

abbrev pub body_part_of : (b : Body) → BodyPart (kind_of b)
body_part_of (directory parent entries) = (parent, entries)
body_part_of (file size) = size
body_part_of (symlink target) = target
body_part_of (special pipe) = tt
body_part_of (special (character device)) = device
body_part_of (special (block device)) = device
body_part_of (special socket) = tt

body-part : (b : Body) → body_of (kind_of b) (body_part_of b) ≡ b
body-part (directory parent entries) = refl
body-part (file size) = refl
body-part (symlink target) = refl
body-part (special pipe) = refl
body-part (special (character device)) = refl
body-part (special (block device)) = refl
body-part (special socket) = refl

-- what fits a part is what fits the body
part-fits : (b : Body) → ◌≡◌ {A = Type 0} ((body_part (kind_of b)).Fits (body_part_of b)) (FitsBody b)
part-fits (directory parent entries) = refl
part-fits (file size) = refl
part-fits (symlink target) = refl
part-fits (special pipe) = refl
part-fits (special (character device)) = refl
part-fits (special (block device)) = refl
part-fits (special socket) = refl

abbrev pub NodeParts : Type 0
NodeParts = (k : Kind) × (Meta × BodyPart k)

abbrev pub node_of : NodeParts → Node
node_of p = record { meta = p.1.0; body = body_of p.0 p.1.1 }

abbrev pub node_parts : Node → NodeParts
node_parts n = (kind_of n.body, (n.meta, body_part_of n.body))

pub node-parts : (n : Node) → node_of (node_parts n) ≡ n
node-parts n = λ i. record { meta = n.meta; body = body-part n.body i }

pub parts-node : (p : NodeParts) → node_parts (node_of p) ≡ p
parts-node p = go p.0 p.1.0 p.1.1
  where
    go : (k : Kind) (m : Meta) (q : BodyPart k) → ◌≡◌ {A = NodeParts} (node_parts (node_of (k, (m, q)))) (k, (m, q))
    go directory m q = refl
    go file m q = refl
    go symlink m q = refl
    go (special pipe) m q = refl
    go (special character) m q = refl
    go (special block) m q = refl
    go (special socket) m q = refl

-- kind, meta and what the kind has
abbrev pub plain_node : Codec Node
plain_node = via node_of node_parts node-parts (seq kind (λ k. meta then body_part k)) (λ p h. parts-node p)

pub node-fits : (n : Node) → FitsNode n → plain_node.Fits n
unfolding kind meta
node-fits n h = (tt, (h.meta, rw part-fits h.body))

pub fits-node : (n : Node) → plain_node.Fits n → FitsNode n
unfolding kind meta
fits-node n h = record { meta = h.1.0; body = rw part-fits at h.1.1 }

unfoldable pub node : Codec Node
node = restated FitsNode plain_node node-fits fits-node

-- "Base: by rising inode"
abbrev pub base : Codec Base
base = listed by_number inode node
