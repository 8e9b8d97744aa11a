-- `value::integer::to_bytes` meets its contract. Assumes nothing.
use mathlib.Core.Path.{◌≡◌, refl, ◌∙◌}
use Prim.Native.Nat.{◌/◌, ◌%◌, ◌<◌}
use native.Mathlib.Omega.{arith}
use mir.Syntax.{w16}
use mir.Val.{of_z}
use mir.Facts.{Fits-of_z, to_z-of_z}
use Rattle.value.proofs.TwosComplement.{bits_are}
use Rattle.value.proofs.integer.to_bytes.Goals as goal

pub returns : goal.returns
returns c =
    let n = of_z w16 c.args.x in
    let h : n < 65536 = (Fits-of_z c.ranges.x).fits in
    let e : n / 256 % 256 ≡ n / 256 = omega arith in
    c.to_be_bytes.ensures ∙ rw (to_z-of_z c.ranges.x, e, bits_are c.args.x) refl
