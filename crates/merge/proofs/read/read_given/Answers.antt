use mathlib.Core.Path.{refl}
use Rattle.std.specs.Prelude.{None, Option, Some}
use Rattle.wire.proofs.Readers.{handed}
use Rattle.image.specs.declared.name.Under.TheVariants as U
use Rattle.merge.specs.Sources.{choice}
use Rattle.merge.specs.declared.read.Given.{Given}
use Rattle.merge.proofs.Sourced.{given-nothing, given-stop, given-made}
use Rattle.merge.proofs.read.read_given.Goals as goal

pub returns-in-Nothing : goal.returns-in-Nothing
returns-in-Nothing c = given-nothing c.in-Nothing.is c.requires

pub returns-in_err-inode-in-Inode : goal.returns-in_err-inode-in-Inode
returns-in_err-inode-in-Inode c =
    rw c.in-Inode.is (given-stop (choice U.Inode) c.read.ensures c.in_err-inode-in-Inode.was (handed c.from_residual.ensures))

pub returns-in_ok-inode-in-Inode : goal.returns-in_ok-inode-in-Inode
returns-in_ok-inode-in-Inode c =
    let g : Option Given = Some (record { inode = c.in_ok-inode-in-Inode.inode; value = record { start = 0; «length» = 0 } }) in
    rw c.in-Inode.is (given-made (choice U.Inode) c.read.ensures g c.in_ok-inode-in-Inode.was refl)

pub returns-in_err-value-in-Value : goal.returns-in_err-value-in-Value
returns-in_err-value-in-Value c =
    rw c.in-Value.is (given-stop (choice U.Value) c.read-in-Value.ensures c.in_err-value-in-Value.was (handed c.from_residual-in_err-value-in-Value.ensures))

pub returns-in_ok-value-in-Value : goal.returns-in_ok-value-in-Value
returns-in_ok-value-in-Value c =
    let g : Option Given = Some (record { inode = 0; value = c.in_ok-value-in-Value.value }) in
    rw c.in-Value.is (given-made (choice U.Value) c.read-in-Value.ensures g c.in_ok-value-in-Value.was refl)

pub returns-in_err-change-in-Change : goal.returns-in_err-change-in-Change
returns-in_err-change-in-Change c =
    rw c.in-Change.is (given-stop (choice U.Change) c.read_maybe.ensures c.in_err-change-in-Change.was (handed c.from_residual-in_err-change-in-Change.ensures))

pub returns-in-Some : goal.returns-in-Some
returns-in-Some c =
    let g : Option Given = Some (record { inode = 0; value = c.in-Some.value }) in
    rw c.in-Change.is (given-made (choice U.Change) c.read_maybe.ensures g c.in_ok-change-in-Change.was (rw c.in-Some.is))

pub returns-in_default : goal.returns-in_default
returns-in_default c = rw c.in-Change.is (given-made (choice U.Change) c.read_maybe.ensures None c.in_ok-change-in-Change.was (rw c.in_default.is))
