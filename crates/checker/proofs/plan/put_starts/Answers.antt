-- `checker::plan::put_starts` meets its contract. Assumes nothing.
use Rattle.checker.proofs.WalkLaws.{starts_none, starts_more}
use Rattle.checker.proofs.plan.put_starts.Goals as goal

pub loop-r-init : goal.loop-r-init
loop-r-init c = starts_none _ _ _ _

pub loop-r-preserved : goal.loop-r-preserved
loop-r-preserved c = starts_more _ _ _ _ _ _ _ _ _ c.loop-r.invariant c.frame_number.ensures.0 c.place_behind-start.ensures c.put_start.ensures
