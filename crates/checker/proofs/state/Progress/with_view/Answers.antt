-- `checker::state::Progress::with_view` meets its contract. Assumes nothing.
use mathlib.Core.Path.{refl}
use Rattle.checker.proofs.state.Progress.with_view.Goals as goal

pub returns : goal.returns
returns c = rw (c.saturating_add-relations.ensures, c.in_stage.ensures) refl
