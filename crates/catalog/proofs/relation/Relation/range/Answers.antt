-- `catalog::relation::Relation::range` meets its contract. Assumes nothing.
use mathlib.Core.Path.{◌∙◌}
use native.Mathlib.Omega.{arith}
use Rattle.catalog.proofs.RelationLaws.{range-there, range-past}
use Rattle.catalog.proofs.relation.Relation.range.Goals as goal

pub returns-then-self-c : goal.returns-then-self-c
returns-then-self-c c = range-past c.args.self.now _ c.if-self-c.true

pub returns : goal.returns
returns c = c.item_at.ensures ∙ range-there c.args.self.now _ (omega (arith, c.if-self-c.false))
