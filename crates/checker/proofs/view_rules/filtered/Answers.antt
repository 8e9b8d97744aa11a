-- `checker::view_rules::filtered` meets its contract. Assumes nothing.
use Rattle.checker.proofs.view_rules.filtered.Goals as goal

pub returns : goal.returns
returns c = c.condition.ensures
