-- `catalog::frames::word_at` meets its contract. Assumes nothing.
use native.Mathlib.Omega.{arith}
use lib.ListN.{get_or-eq_default, length}
use Prim.Native.Nat.{◌+◌, ◌≤◌}
use Rattle.catalog.proofs.frames.word_at.Goals as goal

pub returns-then-frame-at : goal.returns-then-frame-at
returns-then-frame-at c = let l = c.args.frame.now in let h : length l ≤ c.args.at + 1 = omega arith in rw (get_or-eq_default l 0 c.if-frame-at.true, get_or-eq_default l 0 h)
