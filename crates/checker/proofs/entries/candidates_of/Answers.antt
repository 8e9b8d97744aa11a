-- `checker::entries::candidates_of` meets its contract. Assumes nothing.
use mathlib.Core.Path.{sym, ap, ◌∙◌}
use native.Mathlib.Omega.{arith}
use Rattle.checker.specs.CandidateCount.{capped_product, cells_from}
use borrow.Author.Tests.{le-leb, lt-leb}
use Rattle.checker.specs.CandidateCount.{within_limit}
use Rattle.checker.proofs.CandidateLaws.{all_left, file-turn, no-tables, candidates-counted}
use Rattle.checker.proofs.entries.candidates_of.Goals as goal

pub loop-t-init : goal.loop-t-init
loop-t-init c = (omega arith, ap (λ k. capped_product 1 (cells_from c.args.relations.now 0 k)) (all_left c.args.tables))

pub loop-t-preserved : goal.loop-t-preserved
loop-t-preserved c = (
  c.times_table-p.ensures.1,
  file-turn c.args.relations.now c.loop-t.t
      c.args.tables c.loop-t.p c.times_table-p.result (omega arith) c.times_table-p.ensures.0 ∙ c.loop-t.invariant.1,
)

pub returns-then-p-le-CANDIDATE_LIMIT : goal.returns-then-p-le-CANDIDATE_LIMIT
unfolding within_limit
returns-then-p-le-CANDIDATE_LIMIT c = candidates-counted c.args.relations.now c.args.tables c.loop-t.p _
    (sym (no-tables c.args.relations.now c.loop-t.t c.args.tables c.loop-t.p (omega arith)) ∙ c.loop-t.invariant.1)
    (rw (le-leb _ _ c.if-p-le-CANDIDATE_LIMIT.true))

pub returns-else-p-le-CANDIDATE_LIMIT : goal.returns-else-p-le-CANDIDATE_LIMIT
unfolding within_limit
returns-else-p-le-CANDIDATE_LIMIT c = candidates-counted c.args.relations.now c.args.tables c.loop-t.p _
    (sym (no-tables c.args.relations.now c.loop-t.t c.args.tables c.loop-t.p (omega arith)) ∙ c.loop-t.invariant.1)
    (rw (lt-leb _ _ c.if-p-le-CANDIDATE_LIMIT.false))
