-- `text::write_line` meets its contract. Assumes nothing.
use Rattle.text.proofs.Writing.{Turn}
use Rattle.text.proofs.write_line.Given as goal

abbrev pub invariant-loop-i : goal.invariant-loop-i
invariant-loop-i l = Turn l.frame l.initial.out l.at l.out l.i
