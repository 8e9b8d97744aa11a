-- `catalog::frames::names` meets its contract. Assumes nothing.
use mathlib.Core.Path.{◌∙◌}
use native.Mathlib.Omega.{arith}
use Rattle.catalog.proofs.FrameLaws.{names-set, names-own}
use Rattle.catalog.proofs.frames.names.Goals as goal

pub returns-then-item_at-gt-GROUPED : goal.returns-then-item_at-gt-GROUPED
returns-then-item_at-gt-GROUPED c = c.part.ensures ∙ names-set c.args.frame.now c.item_at.result c.item_at.ensures (omega arith)

pub returns : goal.returns
returns c = c.from_list.ensures ∙ names-own c.args.frame.now c.item_at.result c.item_at.ensures (omega arith)
