-- `views::sets::row_at` meets its contract. Assumes nothing.
use native.Mathlib.Omega.{arith}
use Rattle.views.proofs.Copying.{row-start, row_step}
use Rattle.views.proofs.sets.row_at.Goals as goal

pub loop-c-init : goal.loop-c-init
loop-c-init c h = row-start _ _ _ _

pub loop-c-preserved : goal.loop-c-preserved
loop-c-preserved c h = row_step _ _ _ _ _ _ _ (omega arith) c.with_value-row.ensures c.cell-v.ensures (c.loop-c.invariant h)
