-- `cases::judgement::evaluate` meets its contract. Assumes nothing.
use Rattle.catalog.specs.FileIn.{source_in}
use Rattle.cases.specs.Judgement.{memory_from}
use Rattle.cases.proofs.JudgementLaws.{Turned}
use Rattle.cases.proofs.judgement.evaluate.Given as goal

abbrev pub invariant-loop-v : goal.invariant-loop-v
invariant-loop-v l =
    Turned (source_in l.source) l.needs (memory_from l.fn.counts l.fn.signs l.fn.work) (memory_from l.counts l.signs l.work) l.v
