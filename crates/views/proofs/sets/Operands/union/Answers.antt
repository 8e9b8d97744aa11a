-- `views::sets::Operands::union` meets its contract. Assumes nothing.
use Rattle.views.proofs.Copying.{joined}
use Rattle.views.proofs.sets.Operands.union.Goals as goal

pub returns : goal.returns
returns c = joined _ _ _ _ _ _ _ _ _ c.copy.ensures c.copy-2.ensures
