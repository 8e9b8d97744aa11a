-- `catalog::relation::range_at` meets its contract. Assumes nothing.
use mathlib.Core.Path.{ap, sym, ◌∙◌}
use native.Mathlib.Omega.{arith}
use Rattle.catalog.specs.Relations.{range_of, no_relation}
use Rattle.catalog.proofs.RelationLaws.{range-past, relation-past}
use Rattle.catalog.proofs.relation.range_at.Goals as goal

pub returns-else-at-relations : goal.returns-else-at-relations
returns-else-at-relations c = range-past no_relation _ (omega arith) ∙ ap (λ x. range_of x c.args.c) (sym (relation-past c.args.relations.now c.args.r c.if-at-relations.false))
