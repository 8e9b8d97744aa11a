-- `cases::validity::Table::differ` meets its contract. Assumes nothing.
use Rattle.cases.proofs.KeyLaws.{Rest}
use Rattle.cases.proofs.validity.Table.differ.Given as goal

abbrev pub invariant-loop-c : goal.invariant-loop-c
invariant-loop-c l = Rest l.work l.self.number l.fn.i l.fn.j l.self.width l.self.mask l.left l.c
