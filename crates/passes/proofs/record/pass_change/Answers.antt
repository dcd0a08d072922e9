use mathlib.Core.Logic.{inl, inr}
use Rattle.passes.proofs.record.pass_change.Goals as goal

pub returns-in-Directory : goal.returns-in-Directory
returns-in-Directory c = rw c.in-Directory.is c.pass_directory.ensures

pub returns-in-RegularFile : goal.returns-in-RegularFile
returns-in-RegularFile c = rw c.in-RegularFile.is c.pass_maybe.ensures

pub returns-in-Symlink : goal.returns-in-Symlink
returns-in-Symlink c = rw c.in-Symlink.is c.pass_maybe-in-Symlink.ensures

pub returns-in-NamedPipe : goal.returns-in-NamedPipe
returns-in-NamedPipe c =
    elim c.in-NamedPipe.is [
      | inl e ↦ rw e c.pass.ensures
      | inr (inl e) ↦ rw e c.pass.ensures
      | inr (inr (inl e)) ↦ rw e c.pass.ensures
      | inr (inr (inr e)) ↦ rw e c.pass.ensures
    ]
