-- `checker::view_rules::grouped_rules` meets its contract. Assumes nothing.
use Rattle.checker.proofs.ViewRuleLaws.{grouped-rules}
use Rattle.checker.proofs.view_rules.grouped_rules.Goals as goal

pub returns : goal.returns
returns c = grouped-rules c.args.frame.now c.args.relations.now _ c.args.o c.inside-places.result
    c.condition-h.result c.both.result
    c.both.ensures c.inside-places.ensures.1 (rw c.from.ensures at c.condition-h.ensures) c.tail.ensures
