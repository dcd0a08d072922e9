-- Fields merged by value: the new one, if it is there. Document 01: "Update merges into a live delta, field by field".
use Rattle.std.specs.Option.{option_or}
use Rattle.nodes.specs.declared.attr.AttrDelta.{AttrDelta}

abbrev pub attr_over : AttrDelta → AttrDelta → AttrDelta
attr_over a b = record {
  mode = option_or a.mode b.mode;
  uid = option_or a.uid b.uid;
  gid = option_or a.gid b.gid;
  nlink = option_or a.nlink b.nlink;
  atime = option_or a.atime b.atime;
  mtime = option_or a.mtime b.mtime;
  ctime = option_or a.ctime b.ctime;
  created_at = option_or a.created_at b.created_at;
  xattrs = option_or a.xattrs b.xattrs;
}
