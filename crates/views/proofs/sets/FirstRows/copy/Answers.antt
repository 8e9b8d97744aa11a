-- `views::sets::FirstRows::copy` meets its contract. Assumes nothing.
use mathlib.Core.Path.{refl}
use Rattle.views.proofs.Copying.{copied_none, copied-put}
use Rattle.views.proofs.sets.FirstRows.copy.Goals as goal

pub loop-i-init : goal.loop-i-init
loop-i-init c = copied_none _ _ _ _ _

pub loop-i-preserved : goal.loop-i-preserved
loop-i-preserved c = copied-put c.row_at-row.result c.loop-i.invariant refl c.row_at-row.ensures c.put.ensures
