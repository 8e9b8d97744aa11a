-- `checker::plan::place_behind` meets its contract. Assumes nothing.
use mathlib.Core.Path.{◌≡◌, ◌∙◌}
use Prim.Native.Nat.{◌-◌}
use native.Mathlib.Omega.{arith}
use Rattle.checker.proofs.WalkLaws.{start-turn, start-end}
use Rattle.checker.proofs.plan.place_behind.Goals as goal

pub loop-init : goal.loop-init
loop-init c = let e : c.args.n - 0 ≡ c.args.n = omega arith in (omega arith, rw e)

pub loop-preserved : goal.loop-preserved
loop-preserved c = (
  omega arith,
  rw c.item_at.ensures (start-turn c.args.bytes.now c.loop.at c.args.n c.loop.counter c.loop-test.true ∙ c.loop.invariant.1),
)

pub returns : goal.returns
returns c = start-end c.args.bytes.now c.loop.at c.args.n c.loop.counter c.loop-test.false ∙ c.loop.invariant.1
