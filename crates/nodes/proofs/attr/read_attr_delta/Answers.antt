use native.Mathlib.Omega.{arith}
use Rattle.wire.proofs.Readers.{number-most}
use Rattle.nodes.specs.declared.attr.AttrDelta.{AttrDelta}
use Rattle.nodes.specs.Attrs.{no_changes}
use Rattle.nodes.proofs.Values.{reads-fields}
use Rattle.nodes.proofs.attr.read_attr_delta.Goals as goal

pub read_later-requires : goal.read_later-requires
read_later-requires c = (omega (arith, number-most c.read_number.ensures c.in_ok-bits.was), c.in_ok-nlink.ensures.reads.within)

pub returns : goal.returns
returns c =
    let words : AttrDelta = record no_changes { mode = c.in_ok-mode.mode; uid = c.in_ok-uid.uid; gid = c.in_ok-gid.gid; nlink = c.in_ok-nlink.nlink } in
    record {
      reads =
          reads-fields words c.in_ok-bits.ensures c.in_ok-mode.ensures.reads c.in_ok-uid.ensures.reads c.in_ok-gid.ensures.reads c.in_ok-nlink.ensures.reads
          c.read_later.ensures.reads;
      listed = c.read_later.ensures.listed;
    }
