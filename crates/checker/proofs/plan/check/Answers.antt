-- `checker::plan::check` meets its contract. Assumes nothing.
use mathlib.Core.Path.{refl}
use Rattle.text.proofs.Exits.{exit_is}
use Rattle.checker.proofs.PlanLaws.{plan-refused, used-inside, used-taken, used-small, way-stopped, way-whole}
use Rattle.checker.proofs.plan.check.Goals as goal

pub returns-in-Err : goal.returns-in-Err
returns-in-Err c = plan-refused c.args.text.now _ _ refl c.in-Err.ensures

pub slice_bounds-bytes-end : goal.slice_bounds-bytes-end
slice_bounds-bytes-end c = used-inside c.args.text.now c.in-Ok.frames c.in-Ok.ensures

pub slice_bounds-walk-end : goal.slice_bounds-walk-end
slice_bounds-walk-end c = used-taken c.args.text.now c.in-Ok.frames c.in-Ok.ensures

pub walk-requires : goal.walk-requires
walk-requires c = used-small c.args.text.now c.in-Ok.frames c.in-Ok.ensures

pub returns-in_err-s : goal.returns-in_err-s
returns-in_err-s c = way-stopped c.args.text.now c.in-Ok.frames c.in-Ok.ensures _ c.none-relations.ensures _ _ c.in_err-s.ensures (exit_is _ c.from_residual.ensures.1)

pub returns : goal.returns
returns c = way-whole c.args.text.now c.in-Ok.frames c.in-Ok.ensures _ c.none-relations.ensures _ c.in_ok-s.ensures c.plan_whole.ensures
