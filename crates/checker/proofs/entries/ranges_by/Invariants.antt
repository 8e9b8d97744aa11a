-- `checker::entries::ranges_by` meets its contract. Assumes nothing.
use mathlib.Core.Path.{◌≡◌}
use lib.ListN.{length}
use Rattle.checker.specs.Entries.{RangesBy}
use Rattle.checker.proofs.entries.ranges_by.Given as goal

abbrev pub invariant-loop-c : goal.invariant-loop-c
invariant-loop-c g l = RangesBy (goal.F-post g l.range) l.c l.ranges × (length l.ranges ≡ 8)
