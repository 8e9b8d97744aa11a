-- `checker::plan::frame_number` meets its contract. Assumes nothing.
use native.Mathlib.Omega.{arith}
use borrow.Author.Tests.{lt-ltb, le-ltb}
use Rattle.checker.specs.Plans.{frame_number}
use Rattle.checker.proofs.plan.frame_number.Goals as goal

pub returns-then-r-tables : goal.returns-then-r-tables
unfolding frame_number
returns-then-r-tables c = (rw (lt-ltb _ _ c.if-r-tables.true), omega arith)

pub returns : goal.returns
unfolding frame_number
returns c = (rw (le-ltb _ _ c.if-r-tables.false), omega arith)
