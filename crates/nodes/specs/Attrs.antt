-- What the changes of attributes by value mean.
use Rattle.std.specs.Prelude.{List, ℕ, Result, IfOk, None}
use Rattle.wire.specs.declared.fault.Fault.{Fault}
use Rattle.wire.specs.Parse.{Parsed, got, bind}
use Rattle.wire.specs.Reading.{Reads, meant}
use Rattle.image.specs.Meaning.{Fields}
use Rattle.image.specs.declared.name.Under.TheVariants as U
use Rattle.image.specs.RecordLayout.{later_flags, fields, fields_of}
use Rattle.nodes.specs.Listed.{list_of, ListedIf}
use Rattle.nodes.specs.declared.attr.AttrDelta.{AttrDelta}

-- "a mask (bit 0 upward: mode, owner, group, links, atime, mtime, ctime, created, attributes)"
abbrev pub fields_meant : List ℕ → AttrDelta → Fields
fields_meant img a = record {
  mode = a.mode;
  owner = a.uid;
  group = a.gid;
  links = a.nlink;
  atime = a.atime;
  mtime = a.mtime;
  ctime = a.ctime;
  created = a.created_at;
  attributes = list_of img U.Change a.xattrs;
}

-- no field is there
abbrev pub no_changes : AttrDelta
no_changes = record {
  mode = None;
  uid = None;
  gid = None;
  nlink = None;
  atime = None;
  mtime = None;
  ctime = None;
  created_at = None;
  xattrs = None;
}

-- the upper bits of a mask, after the first four fields
abbrev pub later_read : ℕ → AttrDelta → List ℕ → Parsed Fields
later_read bits w s =
    bind ((later_flags.at bits).read s) (λ l r.
    got (fields_of (w.mode, (w.uid, (w.gid, (w.nlink, l))))) r)

pub record ReadsLater (img : List ℕ) (at bits : ℕ) (w : AttrDelta) (r : Result (AttrDelta × ℕ) Fault) : Type 0 where
  pub reads : Reads img (later_read bits w) at (meant (fields_meant img) r)
  pub listed : IfOk r (λ x. ListedIf img U.Change x.0.xattrs x.1)

-- the fields were read, and the attribute changes are the last of them
pub record ReadsAttr (img : List ℕ) (at : ℕ) (r : Result (AttrDelta × ℕ) Fault) : Type 0 where
  pub reads : Reads img fields.read at (meant (fields_meant img) r)
  pub listed : IfOk r (λ x. ListedIf img U.Change x.0.xattrs x.1)
