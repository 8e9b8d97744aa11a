-- `prefix::between` meets its contract. Assumes nothing.
use mathlib.Core.Path.{◌≡◌, ◌∙◌}
use mathlib.Core.Bool.{◌&&◌}
use native.Mathlib.Omega.{arith}
use lib.Dec.{leb}
use borrow.Author.Rules.{rules}
use Rattle.prefix.proofs.Fields.{if-tested}
use Rattle.prefix.proofs.between.Goals as goal

pub returns : goal.returns
returns g c = let a = c.args in λ number four.
    let inside : c.contains.result ≡ leb a.lo c.item_at-b.result && leb c.item_at-b.result a.hi = search rules in
    if-tested _ _ (number a.reason) (λ b. leb a.lo b && leb b a.hi) (inside ∙ rw c.item_at-b.ensures) (c.tested.ensures number four) (grind arith)
