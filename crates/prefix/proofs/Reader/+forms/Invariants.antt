-- The cycle of forms meets its contracts: `expression` and `condition`, two of each, and what stands behind a token. The measure is the number
-- of bytes left, three times, so that a call at the same place can be below its caller. Assumes nothing.
use Prim.Native.Nat.{◌+◌, ◌-◌, ◌*◌}
use lib.ListN.{length}
use Rattle.prefix.proofs.Reader.+forms.Given as goal

abbrev pub decreases-behind_condition : goal.decreases-behind_condition
decreases-behind_condition l = 3 * (length l.self.now.frame.now - l.at) + 2

abbrev pub decreases-behind_exists : goal.decreases-behind_exists
decreases-behind_exists l = 3 * (length l.self.now.frame.now - l.at) + 1

abbrev pub decreases-behind_expression : goal.decreases-behind_expression
decreases-behind_expression l = 3 * (length l.self.now.frame.now - l.at) + 2

abbrev pub decreases-condition : goal.decreases-condition
decreases-condition l = 3 * (length l.self.now.frame.now - l.at)

abbrev pub decreases-expression : goal.decreases-expression
decreases-expression l = 3 * (length l.self.now.frame.now - l.at)

abbrev pub decreases-two_conditions : goal.decreases-two_conditions
decreases-two_conditions l = 3 * (length l.self.now.frame.now - l.at) + 1

abbrev pub decreases-two_expressions : goal.decreases-two_expressions
decreases-two_expressions l = 3 * (length l.self.now.frame.now - l.at) + 1
