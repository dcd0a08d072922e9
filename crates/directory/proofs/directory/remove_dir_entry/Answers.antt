use Rattle.directory.proofs.Directories.{naming-remove}
use Rattle.directory.proofs.directory.remove_dir_entry.Goals as goal

pub returns : goal.returns
returns c = c.change_name.ensures _ (naming-remove _ _ _)
