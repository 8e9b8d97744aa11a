-- `catalog::frames::table_parts` meets its contract. Assumes nothing.
use Rattle.catalog.specs.Frames.{table_parts_in}
use Rattle.catalog.proofs.frames.table_parts.Goals as goal

pub returns : goal.returns
unfolding table_parts_in
returns c = rw (c.item_at.ensures, c.item_at-2.ensures, c.item_at-3.ensures)
