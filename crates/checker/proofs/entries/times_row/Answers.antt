-- `checker::entries::times_row` meets its contract. Assumes nothing.
use mathlib.Core.Path.{sym, ap, ◌∙◌}
use Prim.Native.Nat.{◌*◌, min}
use native.Mathlib.Omega.{arith}
use Rattle.value.specs.Value.{size}
use Rattle.checker.specs.CandidateCount.{too_many, capped_product, columns_from}
use Rattle.checker.proofs.CandidateLaws.{all_left, row-turn, no-columns}
use Rattle.checker.proofs.entries.times_row.Goals as goal

pub loop-c-init : goal.loop-c-init
loop-c-init c = (
  omega arith,
  ap (λ k. capped_product c.args.n (columns_from c.args.relations.now c.args.t 0 k))
      (all_left c.width_of-width.result),
)

pub loop-c-preserved : goal.loop-c-preserved
loop-c-preserved c = (
  omega (arith, c.capped-p.ensures),
  row-turn c.args.relations.now
      c.args.t c.loop-c.c c.width_of-width.result c.loop-c.p
      c.capped-p.result (omega arith) (c.capped-p.ensures ∙ ap (λ s. min (c.loop-c.p * s) too_many) (c.size.ensures.0 ∙ ap size c.domain_of.ensures))
      ∙ c.loop-c.invariant.1,
)

pub returns : goal.returns
returns c = (
  rw c.width_of-width.ensures at (sym (no-columns c.args.relations.now c.args.t
      c.loop-c.c c.width_of-width.result c.loop-c.p (omega arith)) ∙ c.loop-c.invariant.1),
  c.loop-c.invariant.0,
)
