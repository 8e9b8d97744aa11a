-- `catalog::relation::put_start` meets its contract. Assumes nothing.
use mathlib.Core.Path.{ap₂, sym}
use native.Mathlib.Omega.{arith}
use lib.ListN.{set}
use Rattle.std.proofs.lemmas.List.{get_or_default}
use Rattle.catalog.specs.Relations.{no_relation, with_start, put_start}
use Rattle.catalog.proofs.RelationLaws.{start-past}
use Rattle.catalog.proofs.relation.put_start.Goals as goal

pub returns-then-at-relations : goal.returns-then-at-relations
unfolding put_start
returns-then-at-relations c =
    ap₂ (λ x k. set c.args.relations.now c.args.r (with_start x k)) (get_or_default c.args.relations.now c.args.r _ no_relation c.if-at-relations.true) (omega arith)

pub returns-else-at-relations : goal.returns-else-at-relations
returns-else-at-relations c = sym (start-past _ _ _ c.if-at-relations.false)
