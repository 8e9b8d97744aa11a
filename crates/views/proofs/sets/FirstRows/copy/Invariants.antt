-- `views::sets::FirstRows::copy` meets its contract. Assumes nothing.
use Rattle.views.specs.Copies.{Copied}
use Rattle.views.proofs.sets.FirstRows.copy.Given as goal

abbrev pub invariant-loop-i : goal.invariant-loop-i
invariant-loop-i l = Copied l.initial.work l.self.relation l.i l.to l.at l.width l.work
