-- `text::hex_digit` meets its contract. Assumes nothing.
use native.Mathlib.Omega.{arith}
use mathlib.Core.Path.{sym}
use Rattle.text.proofs.Digits.{hex-ten, hex-six}
use Rattle.text.proofs.hex_digit.Goals as goal

pub returns-then-d-lt10 : goal.returns-then-d-lt10
returns-then-d-lt10 c = sym (hex-ten _ (omega arith))

pub returns : goal.returns
returns c = sym (hex-six _ (omega arith))
