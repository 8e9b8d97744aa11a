-- `value::integer::from_bytes` meets its contract. Assumes nothing.
use mathlib.Core.Path.{◌∙◌}
use Prim.Native.Nat.{◌+◌, ◌*◌}
use native.Mathlib.Omega.{arith}
use mir.Syntax.{w16}
use Rattle.value.proofs.Fits.{back}
use Rattle.value.proofs.TwosComplement.{signed_are}
use Rattle.value.proofs.integer.from_bytes.Goals as goal

pub returns : goal.returns
returns c = back w16 _ c.from_be_bytes.type_inv ∙ c.from_be_bytes.ensures ∙ signed_are (c.args.high * 256 + c.args.low) (omega (arith, c.ranges))
