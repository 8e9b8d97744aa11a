-- `checker::state::Progress::with_table` meets its contract. Assumes nothing.
use mathlib.Core.Path.{refl}
use Rattle.checker.proofs.state.Progress.with_table.Goals as goal

pub returns : goal.returns
returns c = rw (c.saturating_add.ensures, c.saturating_add-2.ensures, c.in_stage.ensures) refl
