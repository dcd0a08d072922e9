-- What names lead to in a stack. Document 01, child: "From the top. Tombstone: none. Directory delta: removed name, none; else added name, its
-- inode; else go on below. Other kind: none. Last, a base directory's entries."
use Rattle.std.specs.Prelude.{◌≡◌, ℕ}
use Rattle.wire.specs.Orders.{by_bytes}
use Rattle.wire.specs.Rows.{lookup}
use Rattle.image.specs.Meaning.{Text}
use Rattle.rules.specs.Reads.{child}
use Rattle.rules.specs.Changes.{map_if}
use Rattle.stack.specs.InStack.{shown_in}
use Rattle.stack.specs.declared.stack.Stack.{Stack}
use Rattle.merge.specs.Sources.{Given, Rise}
use Rattle.merge.specs.Merges.{lists_in, given_by, given_in}
use Rattle.merge.specs.declared.sources.Lists.{Lists}
use Rattle.merge.specs.declared.sources.Sources.{Sources}

-- the inode that a name is given
abbrev pub inode_given : ℕ × Given → ℕ
inode_given g = g.1.0

-- the lists rise, and give the names that lead somewhere, with their inodes
pub record LeadsBy (s : Stack) (r : Lists) : Type 0 where
  pub rise : Rise s.img.now (lists_in r)
  pub leads : (name : Text) → map_if inode_given (lookup by_bytes name (given_by s.img.now (lists_in r))) ≡ shown_in (child name) s

-- the sources give the names that lead somewhere, with their inodes
pub record Leads (s : Stack) (r : Sources) : Type 0 where
  pub image : r.img.now ≡ s.img.now
  pub leads : (name : Text) → map_if inode_given (lookup by_bytes name (given_in r)) ≡ shown_in (child name) s
