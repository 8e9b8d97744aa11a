-- `catalog::frames::key_parts` meets its contract. Assumes nothing.
use Rattle.catalog.specs.Frames.{key_parts_in}
use Rattle.catalog.proofs.frames.key_parts.Goals as goal

pub returns : goal.returns
unfolding key_parts_in
returns c = rw (c.item_at.ensures, c.item_at-2.ensures, c.item_at-3.ensures)
