-- `catalog::frames::frame_of` meets its contract. Assumes nothing.
use mathlib.Core.Path.{ap, ◌∙◌}
use Rattle.catalog.specs.Frames.{frame_at}
use Rattle.catalog.proofs.frames.frame_of.Goals as goal

pub returns : goal.returns
returns c = c.frame_at.ensures ∙ ap (frame_at c.args.bytes.now) c.start_of.ensures
