-- `views::sets::Operands::intersection` meets its contract. Assumes nothing.
use Rattle.views.specs.Copies.{Intersection}
use Rattle.views.proofs.sets.Operands.intersection.Given as goal

abbrev pub invariant-loop-i : goal.invariant-loop-i
invariant-loop-i l = Intersection l.initial.work l.left l.i l.self.right.relation l.self.right.count l.to l.width l.kept l.work
