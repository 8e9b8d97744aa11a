-- `cases::needs::needs_with` meets its contract. Assumes nothing.
use Rattle.catalog.specs.FileIn.{source_in}
use Rattle.cases.specs.Needs.{with_goal}
use Rattle.cases.proofs.NeedLaws.{Reached}
use Rattle.cases.proofs.needs.needs_with.Given as goal

abbrev pub invariant-loop-v : goal.invariant-loop-v
invariant-loop-v l = Reached (source_in l.source) (with_goal l.fn.goal l.fn.needs) l.v l.needs
