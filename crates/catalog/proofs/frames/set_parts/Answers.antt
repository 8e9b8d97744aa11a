-- `catalog::frames::set_parts` meets its contract. Assumes nothing.
use Rattle.catalog.specs.Frames.{set_parts_in}
use Rattle.catalog.proofs.frames.set_parts.Goals as goal

pub returns : goal.returns
unfolding set_parts_in
returns c = rw (c.item_at.ensures, c.item_at-2.ensures)
