-- `report::put_cells` meets its contract. Assumes nothing.
use mathlib.Core.Path.{ap, ◌∙◌}
use mathlib.Core.List.{List}
use Prim.Native.Nat.{ℕ}
use native.Mathlib.Omega.{arith}
use mir.Syntax.{w16}
use lib.ListN.{length-set, get_or}
use Rattle.value.proofs.Fits.{back}
use Rattle.value.specs.Integer.{high_byte, low_byte}
use Rattle.report.proofs.LineLaws.{cells-none, cells-more, cells-all}
use Rattle.report.proofs.put_cells.Goals as goal

pub loop-i-init : goal.loop-i-init
loop-i-init c = cells-none

pub bounds-frame-i-in-loop-i : goal.bounds-frame-i-in-loop-i
bounds-frame-i-in-loop-i c = simp length-set (omega (arith, c.requires, c.loop-i.invariant.size))

pub loop-i-preserved : goal.loop-i-preserved
loop-i-preserved c =
    cells-more c.loop-i.invariant c.loop-i-test.true (omega (arith, c.requires))
    (ap (λ (b : List ℕ). get_or b 0 0) c.to_bytes-b.ensures ∙ ap high_byte (back w16 _ c.to_bytes-arg-1.given))
    (ap (λ (b : List ℕ). get_or b 1 0) c.to_bytes-b.ensures ∙ ap low_byte (back w16 _ c.to_bytes-arg-1.given))

pub returns : goal.returns
returns c = cells-all c.loop-i.invariant (omega arith)
