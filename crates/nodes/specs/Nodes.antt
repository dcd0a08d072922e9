-- What a node of the base by value means. Document 01: "then parent and entries (name, inode) rising, or size, or target, or device, or
-- nothing, by kind"; "texts as places beside it".
use Rattle.std.specs.Prelude.{List, ℕ, ◌+◌, length, Result, IfOk, None, Option, Some}
use Rattle.wire.specs.declared.part.Part.{Part}
use Rattle.wire.specs.declared.fault.Fault.{Fault}
use Rattle.wire.specs.Parse.{Parsed, got, bind}
use Rattle.wire.specs.Reading.{Reads, meant}
use Rattle.image.specs.Meaning as M
use Rattle.image.specs.Meaning.{Meta, Body, Kind, directory, file, symlink, special, pipe, character, block, socket}
use Rattle.image.specs.declared.name.Under.TheVariants as U
use Rattle.image.specs.NodeLayout.{meta, body_part, body_of, node}
use Rattle.nodes.specs.Options.{text_at, Inside}
use Rattle.nodes.specs.Listed.{list_at, Listed}
use Rattle.nodes.specs.declared.node.InodeMeta.{InodeMeta}
use Rattle.nodes.specs.declared.node.NodeKind.{NodeKind}
use Rattle.nodes.specs.declared.node.NodeKind.TheVariants as K
use Rattle.nodes.specs.declared.node.Node.{Node}

module _ (img : List ℕ) where
  -- "perm, links, owner, group; atime, mtime, ctime; attributes (name, value) rising"
  abbrev pub meta_meant : InodeMeta → Meta
  meta_meant m = record {
    perm = m.perm;
    links = m.nlink;
    owner = m.uid;
    group = m.gid;
    atime = m.atime;
    mtime = m.mtime;
    ctime = m.ctime;
    attributes = list_at img U.Value m.xattrs;
  }

  -- "then parent and entries (name, inode) rising, or size, or target, or device, or nothing, by kind"
  abbrev pub body_meant : NodeKind → Body
  body_meant (K.Directory parent es) = directory parent (list_at img U.Inode es)
  body_meant (K.File size) = file size
  body_meant (K.Symlink t) = symlink (text_at img t)
  body_meant K.Fifo = special pipe
  body_meant (K.CharDevice rdev) = special (character rdev)
  body_meant (K.BlockDevice rdev) = special (block rdev)
  body_meant K.Socket = special socket

  abbrev pub node_meant : Node → M.Node
  node_meant n = record { meta = meta_meant n.meta; body = body_meant n.kind }

  -- the entries of a directory are a list in the image; a target is inside it
  abbrev pub EntriesListed : NodeKind → ℕ → Type 0
  EntriesListed (K.Directory parent es) end = Listed img U.Inode es end
  EntriesListed (K.File size) end = Unit {0}
  EntriesListed (K.Symlink t) end = Inside img t
  EntriesListed K.Fifo end = Unit {0}
  EntriesListed (K.CharDevice rdev) end = Unit {0}
  EntriesListed (K.BlockDevice rdev) end = Unit {0}
  EntriesListed K.Socket end = Unit {0}

-- where the entries of a directory stand
abbrev pub entries_in : NodeKind → Option Part
entries_in (K.Directory parent es) = Some es
entries_in (K.File size) = None
entries_in (K.Symlink t) = None
entries_in K.Fifo = None
entries_in (K.CharDevice rdev) = None
entries_in (K.BlockDevice rdev) = None
entries_in K.Socket = None

-- what a node of the kind k has of its own
abbrev pub body_read : Kind → List ℕ → Parsed Body
body_read k s = bind ((body_part k).read s) (λ b r. got (body_of k b) r)

-- the attributes end where the meta does
pub record ReadsMeta (img : List ℕ) (at : ℕ) (r : Result (InodeMeta × ℕ) Fault) : Type 0 where
  pub reads : Reads img meta.read at (meant (meta_meant img) r)
  pub attributes : IfOk r (λ x. Listed img U.Value x.0.xattrs x.1)

pub record ReadsKind (img : List ℕ) (k : Kind) (at : ℕ) (r : Result (NodeKind × ℕ) Fault) : Type 0 where
  pub reads : Reads img (body_read k) at (meant (body_meant img) r)
  pub entries : IfOk r (λ x. EntriesListed img x.0 x.1)

-- The node was read. Its kind is one byte, and its attributes end where the meta after the kind does; entries are the last of it.
pub record ReadsNode (img : List ℕ) (at : ℕ) (r : Result (Node × ℕ) Fault) : Type 0 where
  pub reads : Reads img node.read at (meant (node_meant img) r)
  pub attributes : IfOk r (λ x. Listed img U.Value x.0.meta.xattrs (at + 1 + length (meta.write (meta_meant img x.0.meta))))
  pub entries : IfOk r (λ x. EntriesListed img x.0.kind x.1)
