-- `checker::view_rules::factor` meets its contract. Assumes nothing.
use borrow.Author.Tests.{lt-ltb, le-ltb}
use Rattle.catalog.proofs.ItemLaws.{items-number}
use Rattle.checker.specs.ViewRules.{factor_at}
use Rattle.checker.proofs.view_rules.factor.Goals as goal

pub returns-then-i-items : goal.returns-then-i-items
unfolding factor_at
returns-then-i-items c = rw (items-number c.args.items, lt-ltb _ _ c.if-i-items.true, ← c.relation.ensures) c.bound_of.ensures

pub returns : goal.returns
unfolding factor_at
returns c = rw (items-number c.args.items, le-ltb _ _ c.if-i-items.false)
