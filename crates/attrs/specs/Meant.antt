-- What the attributes of a file mean.
use Rattle.image.specs.FileTypes.{kind_meant}
use Rattle.rules.specs.FileAttrs as R
use Rattle.attrs.specs.declared.node.FileAttr.{FileAttr}

-- type, permission, links, owner, group, device number, size and times
abbrev pub attr_meant : FileAttr → R.FileAttr
attr_meant a = record {
  inode = a.ino;
  type = kind_meant a.file_type;
  perm = a.perm;
  links = a.nlink;
  owner = a.uid;
  group = a.gid;
  device = a.rdev;
  size = a.size;
  atime = a.atime;
  mtime = a.mtime;
  ctime = a.ctime;
}
