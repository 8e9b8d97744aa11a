-- `report::Case::table_lines` meets its contract. Assumes nothing.
use native.Mathlib.Omega.{arith}
use Rattle.report.proofs.TableLaws.{stage-none, stage-short, stage-more, stage-all}
use Rattle.report.proofs.Case.table_lines.Goals as goal

pub loop-t-init : goal.loop-t-init
loop-t-init c = stage-none

pub returns-in_default : goal.returns-in_default
returns-in_default c =
    stage-short c.loop-t.invariant c.loop-t-test.true c.bound_of-rows.ensures c.width_of-columns.ensures
    (c.in_default.ensures.cases)

pub loop-t-preserved : goal.loop-t-preserved
loop-t-preserved c =
    let split = c.in-Some.ensures.cases in
    stage-more c.loop-t.invariant c.loop-t-test.true c.bound_of-rows.ensures c.width_of-columns.ensures split.1 split.2 (omega arith) c.table_line-place.ensures

pub returns : goal.returns
returns c = stage-all c.loop-t.invariant (omega arith)
