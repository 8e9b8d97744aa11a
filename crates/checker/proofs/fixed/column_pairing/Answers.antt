-- `checker::fixed::column_pairing` meets its contract. Assumes nothing.
use mathlib.Core.Path.{sym}
use borrow.Author.Tests.{eq-eqb, ne_eqb}
use Rattle.checker.specs.FixedFaults.{column_pairing}
use Rattle.checker.proofs.fixed.column_pairing.Goals as goal

pub returns-then-parents_of-mask : goal.returns-then-parents_of-mask
unfolding column_pairing
returns-then-parents_of-mask c = rw (sym c.parents_of.ensures, eq-eqb _ _ c.if-parents_of-mask.true)

pub returns-else-parents_of-mask : goal.returns-else-parents_of-mask
unfolding column_pairing
returns-else-parents_of-mask c = rw (sym c.parents_of.ensures, ne_eqb _ _ c.if-parents_of-mask.false)
