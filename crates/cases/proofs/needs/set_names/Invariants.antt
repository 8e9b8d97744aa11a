-- `cases::needs::set_names` meets its contract. Assumes nothing.
use lib.ListN.{take}
use Rattle.cases.specs.Needs.{NamesSet}
use Rattle.cases.proofs.needs.set_names.Given as goal

abbrev pub invariant-loop-named : goal.invariant-loop-named
invariant-loop-named l = NamesSet (take l.named-index l.names) l.fn.flags l.flags
