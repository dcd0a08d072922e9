use Rattle.directory.proofs.Directories.{naming-add}
use Rattle.directory.proofs.directory.add_dir_entry.Goals as goal

pub returns : goal.returns
returns c = c.change_name.ensures _ (naming-add _ _ _ _)
