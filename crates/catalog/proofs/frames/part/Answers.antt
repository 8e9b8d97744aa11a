-- `catalog::frames::part` meets its contract. Assumes nothing.
use Rattle.catalog.proofs.FrameLaws.{part-is}
use Rattle.catalog.proofs.frames.part.Goals as goal

pub returns : goal.returns
returns c = part-is c.args.bytes.now c.args.at c.args.n c.min-from.result c.min-to.result
    c.min-from.ensures c.min-to.ensures
