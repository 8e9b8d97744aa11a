-- `look::buffers::show` meets its contract. Assumes nothing.
use mathlib.Core.Path.{◌∙◌}
use native.Mathlib.Omega.{arith}
use mir.Syntax.{w16}
use Rattle.value.proofs.Fits.{back}
use Rattle.look.proofs.BufferLaws.{showing-none, showing-more, showing-all}
use Rattle.look.proofs.buffers.show.Goals as goal

pub loop-j-init : goal.loop-j-init
loop-j-init c = showing-none _ _ _ _

pub loop-j-preserved : goal.loop-j-preserved
loop-j-preserved c =
    showing-more _ _ c.loop-j.invariant (omega arith)
    c.cell-v.ensures (back w16 _ c.shown.type_inv ∙ c.shown.ensures) c.put_item.ensures

pub returns : goal.returns
returns c = showing-all c.loop-j.invariant (omega arith)
