-- `checker::view_rules::selects` meets its contract. Assumes nothing.
use Rattle.catalog.specs.Items.{relations_in}
use Rattle.checker.proofs.ViewRuleLaws.{SelectsTo}
use Rattle.checker.proofs.view_rules.selects.Given as goal

abbrev pub invariant-loop-c : goal.invariant-loop-c
invariant-loop-c l =
    SelectsTo l.scope.frame.now l.start (relations_in l.scope.items) l.scope.relations.now l.scope.rule l.c l.ranges l.at l.allowed l.within
