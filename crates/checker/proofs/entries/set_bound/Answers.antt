-- `checker::entries::set_bound` meets its contract. Assumes nothing.
use mathlib.Core.Path.{ap₂, ◌∙◌}
use Prim.Native.Nat.{min}
use Rattle.meaning.specs.Bounds.{set_bound}
use Rattle.catalog.specs.Kinds.{operation_of}
use Rattle.checker.proofs.entries.set_bound.Goals as goal

pub returns : goal.returns
returns c = c.joined_bound.ensures ∙ ap₂ (λ a b. min (set_bound (operation_of c.args.operation) a b) 255) c.bound_of-a.ensures c.bound_of-b.ensures
