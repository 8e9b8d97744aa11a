-- `checker::step::body_step` meets its contract. Assumes nothing.
use Rattle.checker.proofs.StepLaws.{turned-view}
use Rattle.checker.proofs.step.body_step.Goals as goal

pub returns-in-View : goal.returns-in-View
returns-in-View c = turned-view c.in-View.view c.in-View.is c.view_step.ensures
