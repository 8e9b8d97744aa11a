-- `checker::fixed::parents_of` meets its contract. Assumes nothing.
use native.Mathlib.Omega.{arith}
use mathlib.Core.Path.{◌≡◌, ◌∙◌, ap}
use lib.Dec.{eqb}
use Prim.Native.Nat.{◌-◌}
use Rattle.value.specs.Bag.{tick}
use Rattle.checker.proofs.PairLaws.{parents-more, parents-end}
use Rattle.checker.proofs.fixed.parents_of.Goals as goal

pub loop-k-init : goal.loop-k-init
loop-k-init c = let e : c.args.n - 0 ≡ c.args.n = omega arith in (rw e (omega arith), omega arith)

pub loop-k-preserved : goal.loop-k-preserved
loop-k-preserved c = (
  parents-more c.args.frame.now c.args.i c.args.n c.loop-k.k _ _ _ c.loop-k-test.true
      (c.one_if-count.ensures.0 ∙ ap (λ b. tick (eqb b c.args.i) 0) c.item_at-parent.ensures) c.loop-k.invariant.0,
  omega arith,
)

pub returns : goal.returns
returns c = parents-end c.args.frame.now c.args.i c.args.n c.loop-k.k _ _ c.loop-k-test.false c.loop-k.invariant.0
