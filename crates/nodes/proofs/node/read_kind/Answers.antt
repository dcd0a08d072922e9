use mathlib.Core.Path.{refl}
use Rattle.wire.proofs.Readers.{handed}
use Rattle.nodes.specs.declared.node.NodeKind.TheVariants.{File, Symlink, CharDevice, BlockDevice}
use Rattle.nodes.proofs.Nodes.{own-stops, own-read}
use Rattle.nodes.proofs.node.read_kind.Goals as goal

pub returns-in-Directory : goal.returns-in-Directory
returns-in-Directory c = rw c.in-Directory.is c.read_directory.ensures

pub returns-in_err-size-in-RegularFile : goal.returns-in_err-size-in-RegularFile
returns-in_err-size-in-RegularFile c = rw c.in-RegularFile.is (own-stops c.read.ensures c.in_err-size-in-RegularFile.was (handed c.from_residual.ensures))

pub returns-in_ok-size-in-RegularFile : goal.returns-in_ok-size-in-RegularFile
returns-in_ok-size-in-RegularFile c =
    rw c.in-RegularFile.is (own-read c.read.ensures (File c.in_ok-size-in-RegularFile.size) c.in_ok-size-in-RegularFile.was refl
    c.in_ok-size-in-RegularFile.ensures.holds)

pub returns-in_err-target-in-Symlink : goal.returns-in_err-target-in-Symlink
returns-in_err-target-in-Symlink c =
    rw c.in-Symlink.is (own-stops c.read-in-Symlink.ensures c.in_err-target-in-Symlink.was (handed c.from_residual-in_err-target-in-Symlink.ensures))

pub returns-in_ok-target-in-Symlink : goal.returns-in_ok-target-in-Symlink
returns-in_ok-target-in-Symlink c =
    rw c.in-Symlink.is (own-read c.read-in-Symlink.ensures (Symlink c.in_ok-target-in-Symlink.target) c.in_ok-target-in-Symlink.was refl
    c.in_ok-target-in-Symlink.ensures.holds)

pub returns-in_err-rdev-in-CharDevice : goal.returns-in_err-rdev-in-CharDevice
returns-in_err-rdev-in-CharDevice c =
    rw c.in-CharDevice.is (own-stops c.read-in-CharDevice.ensures c.in_err-rdev-in-CharDevice.was (handed c.from_residual-in_err-rdev-in-CharDevice.ensures))

pub returns-in_ok-rdev-in-CharDevice : goal.returns-in_ok-rdev-in-CharDevice
returns-in_ok-rdev-in-CharDevice c =
    rw c.in-CharDevice.is (own-read c.read-in-CharDevice.ensures (CharDevice c.in_ok-rdev-in-CharDevice.rdev) c.in_ok-rdev-in-CharDevice.was refl
    c.in_ok-rdev-in-CharDevice.ensures.holds)

pub returns-in_err-rdev-in-BlockDevice : goal.returns-in_err-rdev-in-BlockDevice
returns-in_err-rdev-in-BlockDevice c =
    rw c.in-BlockDevice.is (own-stops c.read-in-BlockDevice.ensures c.in_err-rdev-in-BlockDevice.was
    (handed c.from_residual-in_err-rdev-in-BlockDevice.ensures))

pub returns-in_ok-rdev-in-BlockDevice : goal.returns-in_ok-rdev-in-BlockDevice
returns-in_ok-rdev-in-BlockDevice c =
    rw c.in-BlockDevice.is (own-read c.read-in-BlockDevice.ensures (BlockDevice c.in_ok-rdev-in-BlockDevice.rdev) c.in_ok-rdev-in-BlockDevice.was refl
    c.in_ok-rdev-in-BlockDevice.ensures.holds)

pub returns-in-NamedPipe : goal.returns-in-NamedPipe
returns-in-NamedPipe c = rw c.in-NamedPipe.is (record { reads = record { same = refl; within = c.requires }; entries = tt })

pub returns-in-Socket : goal.returns-in-Socket
returns-in-Socket c = rw c.in-Socket.is (record { reads = record { same = refl; within = c.requires }; entries = tt })
