-- `catalog::frames::parts_after` meets its contract. Assumes nothing.
use mathlib.Core.Path.{ap}
use Rattle.catalog.specs.Kinds.{groups_rows}
use Rattle.catalog.proofs.FrameLaws.{parts-grouped, parts-basic}
use Rattle.catalog.proofs.frames.parts_after.Goals as goal

pub returns-in-Basic : goal.returns-in-Basic
returns-in-Basic c = parts-basic c.args.frame.now (groups_rows c.args.kind) c.item_at-items.result c.item_at.result (ap groups_rows c.in-Basic.is)
    c.item_at-items.ensures c.item_at.ensures

pub returns-in-Aggregate : goal.returns-in-Aggregate
returns-in-Aggregate c = parts-grouped c.args.frame.now (groups_rows c.args.kind) c.item_at-items.result c.item_at-in-Aggregate.result
    c.item_at-in-Aggregate-2.result (ap groups_rows c.in-Aggregate.is) c.item_at-items.ensures c.item_at-in-Aggregate.ensures c.item_at-in-Aggregate-2.ensures
