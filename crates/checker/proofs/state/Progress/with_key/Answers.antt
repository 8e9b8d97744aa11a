-- `checker::state::Progress::with_key` meets its contract. Assumes nothing.
use mathlib.Core.Path.{refl}
use Rattle.checker.proofs.state.Progress.with_key.Goals as goal

pub returns : goal.returns
returns c = rw (c.saturating_add.ensures, c.in_stage.ensures) refl
