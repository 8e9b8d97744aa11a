-- `catalog::frames::from_list` meets its contract. Assumes nothing.
use mathlib.Core.Path.{◌∙◌}
use Rattle.catalog.proofs.FrameLaws.{froms-are}
use Rattle.catalog.proofs.frames.from_list.Goals as goal

pub returns : goal.returns
returns c = c.part.ensures ∙ froms-are c.args.frame.now c.item_at.result c.item_at.ensures
