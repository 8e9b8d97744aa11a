-- `catalog::outline::some_row` meets its contract. Assumes nothing.
use native.Mathlib.Omega.{arith}
use Rattle.catalog.proofs.TableLaws.{bare-none, bare-more, filled-some, filled_none}
use Rattle.catalog.proofs.outline.some_row.Goals as goal

pub loop-t-init : goal.loop-t-init
loop-t-init c = bare-none _

pub returns-then-bound_of-gt0 : goal.returns-then-bound_of-gt0
returns-then-bound_of-gt0 c = filled-some _ _ _ _ (omega arith) c.bound_of.ensures c.if-bound_of-gt0.true

pub loop-t-preserved : goal.loop-t-preserved
loop-t-preserved c = bare-more _ _ _ c.loop-t.invariant c.bound_of.ensures c.if-bound_of-gt0.false

pub returns : goal.returns
returns c = filled_none _ _ _ (omega arith) c.loop-t.invariant
