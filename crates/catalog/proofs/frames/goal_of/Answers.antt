-- `catalog::frames::goal_of` meets its contract. Assumes nothing.
use Rattle.catalog.specs.Frames.{goal_in}
use Rattle.catalog.proofs.frames.goal_of.Goals as goal

pub returns : goal.returns
unfolding goal_in
returns c = rw (c.item_at.ensures, c.item_at-2.ensures)
