-- `catalog::frames::frame_at` meets its contract. Assumes nothing.
use mathlib.Core.Path.{◌∙◌}
use Rattle.catalog.proofs.FrameLaws.{frame_is}
use Rattle.catalog.proofs.frames.frame_at.Goals as goal

pub returns : goal.returns
returns c = c.part.ensures ∙ frame_is c.args.bytes.now c.args.at c.item_at-size.result c.min-before.result
    c.item_at-size.ensures c.min-before.ensures
