-- What stands in a list by inode has one form.
-- Assumes nothing.
use Rattle.wire.specs.Codec.{OneForm}
use Rattle.image.proofs.OneForm.{node-one, layer_record-one}
use Rattle.passes.specs.Held.{held}
use Rattle.passes.specs.declared.inode.Held.{Held}
use Rattle.passes.specs.declared.inode.Held.TheVariants as H

pub held-one : (h : Held) → OneForm (held h)
held-one H.Node = node-one
held-one H.Record = layer_record-one
