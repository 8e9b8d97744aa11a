-- `checker::entries::times_table` meets its contract. Assumes nothing.
use mathlib.Core.Path.{sym, ◌∙◌}
use native.Mathlib.Omega.{arith}
use Rattle.catalog.specs.Relations.{width_at}
use Rattle.checker.specs.CandidateCount.{columns_from, table_cells}
use Prim.Native.Nat.{◌-◌}
use Rattle.checker.proofs.CandidateLaws.{all_left, table-turn, no_cells}
use Rattle.checker.proofs.entries.times_table.Goals as goal

pub loop-init : goal.loop-init
unfolding table_cells
loop-init c = (omega arith, rw (all_left c.bound_of-rows.result, c.bound_of-rows.ensures))

pub loop-preserved : goal.loop-preserved
loop-preserved c = (
  c.times_row-p.ensures.1,
  table-turn (columns_from c.args.relations.now c.args.t 0 (width_at c.args.relations.now c.args.t))
      c.bound_of-rows.result c.loop.counter c.loop.p c.times_row-p.result c.loop-test.true c.times_row-p.ensures.0 ∙ c.loop.invariant.1,
)

pub returns : goal.returns
returns c = (
  sym (no_cells (columns_from c.args.relations.now c.args.t 0 (width_at c.args.relations.now c.args.t))
      (c.bound_of-rows.result - c.loop.counter) c.loop.p (omega arith)) ∙ c.loop.invariant.1,
  c.loop.invariant.0,
)
