-- `checker::view_rules::selects` meets its contract. Assumes nothing.
use mathlib.Core.Path.{refl, ◌∙◌}
use Rattle.value.proofs.Places.{get_d-all}
use Rattle.catalog.specs.Relations.{no_range}
use Rattle.checker.proofs.ViewRuleLaws.{selects-begun, selects-more}
use Rattle.checker.proofs.view_rules.selects.Goals as goal
use Rattle.checker.proofs.view_rules.selects.Goals.{in-Some, in-None}

pub loop-c-init : goal.loop-c-init
loop-c-init c = selects-begun _ _ _ _ _ _ refl (λ k. get_d-all 8 k no_range)

pub loop-c-preserved : goal.loop-c-preserved
loop-c-preserved c = selects-more _ _ _ _ _ c.loop-c.invariant c.expression-e.ensures
    (elim c.match-e.branch [
      | in-Some w ↦ rw w.in-Some.is (w.ranges-is ∙ w.put_item.ensures, w.within-is)
      | in-None w ↦ rw w.in-None.is (w.ranges-is, w.within-is)
    ])
