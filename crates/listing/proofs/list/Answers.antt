use Rattle.lines.proofs.Whole.{opened_rows}
use Rattle.listing.proofs.list.Goals as goal

pub write_lines-requires : goal.write_lines-requires
write_lines-requires g c = opened_rows (rw c.in-Ok.is at c.open_listing.ensures)
