-- `checker::entries::joined_bound` meets its contract. Assumes nothing.
use native.Mathlib.Omega.{arith}
use Rattle.checker.proofs.entries.joined_bound.Goals as goal

pub returns-in-Union : goal.returns-in-Union
returns-in-Union c = rw c.in-Union.is (omega (arith, c.saturating_add.ensures))

pub returns-in-Intersection : goal.returns-in-Intersection
returns-in-Intersection c = rw c.in-Intersection.is (omega (arith, c.min.ensures))
