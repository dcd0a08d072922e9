-- What the writers of the image's constructs write.
use Rattle.wire.specs.declared.part.Part.{Part}
use Rattle.std.specs.Prelude.{◌≡◌, refl, List, ◌++◌, ℕ, ◌+◌, ◌*◌, None, Option, Some}
use Rattle.std.proofs.Common.{append_assoc}
use Rattle.wire.specs.Combinators.{count, opt_write}
use Rattle.wire.specs.Number.{number_bytes}
use Rattle.image.specs.declared.name.Under.TheVariants as U
use Rattle.image.specs.Meaning.{Attributes, Changes, Fields, Meta}
use Rattle.image.specs.FieldLayout.{word, moment}
use Rattle.image.specs.NodeLayout.{meta_of}
use Rattle.image.specs.RecordLayout.{changes, fields_of, field_parts, flags, fields}
use Rattle.nodes.specs.Listed.{list_of}
use Rattle.nodes.specs.Attrs.{fields_meant}
use Rattle.nodes.specs.declared.attr.AttrDelta.{AttrDelta}
use Rattle.nodes.specs.declared.node.InodeMeta.{InodeMeta}

-- the bit of a part: 1 if it is there
abbrev pub part_bit : Option Part → ℕ
part_bit o = count o

-- "a mask (bit 0 upward: mode, owner, group, links, atime, mtime, ctime, created, attributes)": its upper five bits
abbrev pub later_mask : AttrDelta → ℕ
later_mask a =
    count a.atime + 2 * (count a.mtime + 2 * (count a.ctime + 2 * (count a.created_at + 2 * part_bit a.xattrs)))

abbrev pub mask_of : AttrDelta → ℕ
mask_of a =
    count a.mode + 2 * (count a.uid + 2 * (count a.gid + 2 * (count a.nlink + 2 * later_mask a)))

-- "the fields present", from the first time on, without the attribute changes
abbrev pub times_bytes : AttrDelta → List ℕ
times_bytes a =
    opt_write moment a.atime ++ opt_write moment a.mtime ++ opt_write moment a.ctime ++ opt_write moment a.created_at

-- "a mask; the fields present", without the attribute changes, which stand in the image
abbrev pub attr_bytes : AttrDelta → List ℕ
attr_bytes a =
    number_bytes (mask_of a) ++ opt_write word a.mode ++ opt_write word a.uid ++ opt_write word a.gid
    ++ opt_write word a.nlink ++ times_bytes a

-- ---- the same by the layout, whose last field is the attribute changes

pub list-bit : (img : List ℕ) (o : Option Part) → count (list_of img U.Change o) ≡ part_bit o
list-bit img (Some p) = refl
list-bit img None = refl

-- the fields, with these attribute changes
abbrev pub fields_with : AttrDelta → Option Changes → Fields
fields_with a o =
    fields_of (a.mode, (a.uid, (a.gid, (a.nlink, (a.atime, (a.mtime, (a.ctime, (a.created_at, o))))))))

module _ (a : AttrDelta) (o : Option Changes) (e : count o ≡ part_bit a.xattrs) where
  pub mask-bits : flags.mask (field_parts (fields_with a o)) ≡ mask_of a
  mask-bits = rw e

  pub fields-with-bytes : fields.write (fields_with a o) ≡ attr_bytes a ++ opt_write changes o
  unfolding fields
  fields-with-bytes = rw mask-bits (simp append_assoc)

-- with those that it has in the image
pub fields-bytes : (img : List ℕ) (a : AttrDelta)
    → fields.write (fields_meant img a) ≡ attr_bytes a ++ opt_write changes (list_of img U.Change a.xattrs)
fields-bytes img a = fields-with-bytes a (list_of img U.Change a.xattrs) (list-bit img a.xattrs)

-- ---- a node of the base

-- "perm, links, owner, group; atime, mtime, ctime", without the attributes
abbrev pub meta_bytes : InodeMeta → List ℕ
meta_bytes m =
    number_bytes m.perm ++ number_bytes m.nlink ++ number_bytes m.uid ++ number_bytes m.gid
    ++ moment.write m.atime ++ moment.write m.mtime ++ moment.write m.ctime

-- the same, with these attributes
abbrev pub meta_with : InodeMeta → Attributes → Meta
meta_with m l = meta_of (m.perm, (m.nlink, (m.uid, (m.gid, (m.atime, (m.mtime, (m.ctime, l)))))))
