-- `checker::plan::put_starts` meets its contract. Assumes nothing.
use Rattle.checker.specs.Plans.{StartsPut}
use Rattle.checker.proofs.plan.put_starts.Given as goal

abbrev pub invariant-loop-r : goal.invariant-loop-r
invariant-loop-r l = StartsPut l.bytes l.tables l.keys l.r l.initial.relations l.relations
