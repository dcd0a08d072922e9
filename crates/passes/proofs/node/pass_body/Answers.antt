use mathlib.Core.Path.{refl}
use mathlib.Core.Logic.{inl, inr}
use native.Mathlib.Omega.{arith}
use Rattle.image.proofs.Passing.{passes}
use Rattle.passes.proofs.node.pass_body.Goals as goal

pub returns-in_err-entries-in-Directory : goal.returns-in_err-entries-in-Directory
returns-in_err-entries-in-Directory c = rw c.in-Directory.is (search (passes, arith))

pub returns-in_ok-entries-in-Directory : goal.returns-in_ok-entries-in-Directory
returns-in_ok-entries-in-Directory c = rw c.in-Directory.is (search (passes, arith))

pub returns-in-RegularFile : goal.returns-in-RegularFile
returns-in-RegularFile c = rw c.in-RegularFile.is c.pass-in-RegularFile.ensures

pub returns-in-Symlink : goal.returns-in-Symlink
returns-in-Symlink c = rw c.in-Symlink.is c.pass-in-Symlink.ensures

pub returns-in-CharDevice : goal.returns-in-CharDevice
returns-in-CharDevice c =
    elim c.in-CharDevice.is [
      | inl e ↦ rw e c.pass-in-CharDevice.ensures
      | inr e ↦ rw e c.pass-in-CharDevice.ensures
    ]

pub returns-in-NamedPipe : goal.returns-in-NamedPipe
returns-in-NamedPipe c =
    elim c.in-NamedPipe.is [
      | inl e ↦ rw e (record { same = refl; within = c.requires })
      | inr e ↦ rw e (record { same = refl; within = c.requires })
    ]
