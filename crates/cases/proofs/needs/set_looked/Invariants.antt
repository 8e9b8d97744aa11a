-- `cases::needs::set_looked` meets its contract. Assumes nothing.
use Rattle.cases.specs.Needs.{behind_to, NamesSet}
use Rattle.cases.proofs.needs.set_looked.Given as goal

abbrev pub invariant-loop-i : goal.invariant-loop-i
invariant-loop-i l = NamesSet (behind_to l.v l.frame l.i) l.fn.flags l.flags
