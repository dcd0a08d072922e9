use mathlib.Core.Path.{refl}
use Rattle.wire.proofs.Readers.{handed}
use Rattle.std.proofs.lemmas.Iterator.Adapters.{option_map_id}
use Rattle.deltas.specs.declared.delta.NodeDelta.TheVariants.{File, Symlink}
use Rattle.image.specs.Meaning.{pipe, character, block, socket}
use Rattle.deltas.proofs.Deltas.{field-stops, field-read, held-inside}
use Rattle.deltas.proofs.delta.read_node_delta.Goals as goal

pub returns-in-Directory : goal.returns-in-Directory
returns-in-Directory c = rw c.in-Directory.is c.read_directory_delta.ensures

pub returns-in_err-size-in-RegularFile : goal.returns-in_err-size-in-RegularFile
returns-in_err-size-in-RegularFile c =
    rw c.in-RegularFile.is (field-stops c.read_maybe.ensures c.in_err-size-in-RegularFile.was (handed c.from_residual.ensures))

pub returns-in_ok-size-in-RegularFile : goal.returns-in_ok-size-in-RegularFile
returns-in_ok-size-in-RegularFile c =
    rw c.in-RegularFile.is (field-read c.read_maybe.ensures (File (record {
      size =
          c.in_ok-size-in-RegularFile.size;
      attr_delta = c.args.attr_delta;
    })) c.in_ok-size-in-RegularFile.was refl (rw option_map_id) tt)

pub returns-in_err-target-in-Symlink : goal.returns-in_err-target-in-Symlink
returns-in_err-target-in-Symlink c =
    rw c.in-Symlink.is (field-stops c.read_maybe-in-Symlink.ensures c.in_err-target-in-Symlink.was (handed c.from_residual-in_err-target-in-Symlink.ensures))

pub returns-in_ok-target-in-Symlink : goal.returns-in_ok-target-in-Symlink
returns-in_ok-target-in-Symlink c =
    rw c.in-Symlink.is (field-read c.read_maybe-in-Symlink.ensures (Symlink
    (record { target = c.in_ok-target-in-Symlink.target; attr_delta = c.args.attr_delta })) c.in_ok-target-in-Symlink.was refl refl
    (held-inside _ _ _ c.in_ok-target-in-Symlink.ensures.holds))

pub returns-in-NamedPipe : goal.returns-in-NamedPipe
returns-in-NamedPipe c = rw c.in-NamedPipe.is (c.read_special.ensures pipe (λ d n h. h.1))

pub returns-in-CharDevice : goal.returns-in-CharDevice
returns-in-CharDevice c = rw c.in-CharDevice.is (c.read_special-in-CharDevice.ensures character (λ d n h. h.1))

pub returns-in-BlockDevice : goal.returns-in-BlockDevice
returns-in-BlockDevice c = rw c.in-BlockDevice.is (c.read_special-in-BlockDevice.ensures block (λ d n h. h.1))

pub returns-in-Socket : goal.returns-in-Socket
returns-in-Socket c = rw c.in-Socket.is (c.read_special-in-Socket.ensures socket (λ d n h. h.1))
