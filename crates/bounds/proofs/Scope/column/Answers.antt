-- `bounds::Scope::column` meets its contract. Assumes nothing.
use mathlib.Core.Path.{◌∙◌}
use Rattle.bounds.proofs.Scope.column.Goals as goal

pub returns : goal.returns
returns c = c.sizing.ensures ∙ rw (c.permits-allowed.ensures, c.range_of.ensures, c.item_at-item.ensures, c.item_at-number.ensures)
