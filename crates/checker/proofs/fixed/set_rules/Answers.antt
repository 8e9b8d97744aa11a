-- `checker::fixed::set_rules` meets its contract. Assumes nothing.
use Rattle.checker.proofs.FixedAnswers.{rules-unequal, rules-small, rules-large}
use Rattle.checker.proofs.fixed.set_rules.Goals as goal

pub returns-then-width_of : goal.returns-then-width_of
returns-then-width_of c = rules-unequal _ c.args.relations.now c.args.i c.args.j c.width_of.ensures
    c.width_of-2.ensures c.if-width_of.true

pub returns-then-set_bound-le64 : goal.returns-then-set_bound-le64
returns-then-set_bound-le64 c = rules-small _ c.args.relations.now c.args.i
    c.args.j c.width_of.ensures c.width_of-2.ensures c.if-width_of.false
    c.set_bound.ensures c.if-set_bound-le64.true

pub returns-else-set_bound-le64 : goal.returns-else-set_bound-le64
returns-else-set_bound-le64 c = rules-large _ c.args.relations.now c.args.i
    c.args.j c.width_of.ensures c.width_of-2.ensures c.if-width_of.false
    c.set_bound.ensures c.if-set_bound-le64.false
