-- `checker::entries::hull_at` meets its contract. Assumes nothing.
use mathlib.Core.Path.{ap₂, ◌∙◌}
use Rattle.range.specs.Ranges.{hull_of}
use Rattle.checker.specs.Entries.{hull_at}
use Rattle.checker.proofs.entries.hull_at.Goals as goal

pub returns : goal.returns
unfolding hull_at
returns c = c.hull.ensures ∙ ap₂ hull_of c.range_at.ensures c.range_at-2.ensures
