-- `text::write_line` meets its contract. Assumes nothing.
use native.Mathlib.Omega.{arith}
use Rattle.text.proofs.Writing.{no_room, begin, next-byte, line-done}
use Rattle.text.proofs.write_line.Goals as goal

pub returns-then-out-at : goal.returns-then-out-at
returns-then-out-at c = no_room _ _ _ (omega arith)

pub returns-then-out-at-2 : goal.returns-then-out-at-2
returns-then-out-at-2 c = no_room _ _ _ (omega arith)

pub loop-i-preserved : goal.loop-i-preserved
loop-i-preserved c = next-byte _ _ _ c.loop-i.invariant _ _ c.loop-i-test.true c.hex_digit.ensures c.hex_digit-in-loop-i.ensures

pub returns : goal.returns
returns c = line-done _ _ _ c.loop-i.invariant (omega arith)
