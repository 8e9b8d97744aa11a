-- `checker::plan::walk` meets its contract. Assumes nothing.
use native.Mathlib.Omega.{arith}
use mathlib.Core.Path.{refl}
use borrow.Author.Rules.{rules}
use Rattle.checker.proofs.WalkLaws.{walk-stops, walk-goes, walk_ends, walk_begins}
use Rattle.checker.proofs.plan.walk.Goals as goal

pub loop-at-init : goal.loop-at-init
loop-at-init c = (refl, omega arith, λ fs p h. walk_begins _ _ _ c.start-s.ensures fs p h)

pub returns-in-Err : goal.returns-in-Err
returns-in-Err c = record {
  walked = λ fs p h. walk-stops _ _ _ _ _ fs (c.loop-at.invariant.2 fs p h)
      c.loop-at-test.true _ c.frame_at-frame.ensures _ _ c.frame_step.ensures _ c.in-Err.is _ c.at.ensures;
}

pub loop-at-preserved : goal.loop-at-preserved
loop-at-preserved c = (
  search rules,
  omega arith,
  λ fs p h. walk-goes _ _ _ _ _ fs (c.loop-at.invariant.2 fs p h)
      c.loop-at-test.true _ c.frame_at-frame.ensures _ _
      c.frame_step.ensures _ c.in-Ok.is,
)

pub returns : goal.returns
returns c = record { walked = λ fs p h. walk_ends _ _ _ _ _ fs (c.loop-at.invariant.2 fs p h) c.loop-at-test.false }
