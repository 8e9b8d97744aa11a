-- `prefix::below` meets its contract. Assumes nothing.
use mathlib.Core.Path.{ap}
use native.Mathlib.Omega.{arith}
use lib.Dec.{ltb}
use Rattle.prefix.proofs.Fields.{if-tested}
use Rattle.prefix.proofs.below.Goals as goal

pub returns : goal.returns
returns g c = let a = c.args in λ number four.
    if-tested _ _ (number a.reason) (λ b. ltb b a.n) (ap (λ b. ltb b a.n) c.item_at.ensures) (c.tested.ensures number four) (grind arith)
