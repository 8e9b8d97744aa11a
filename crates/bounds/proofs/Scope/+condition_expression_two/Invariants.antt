-- The proof of the cycle of calls of `bounds::Scope::condition`, `bounds::Scope::expression` and `bounds::Scope::two`. The measure is twice what is left of
-- the frame, and one more where the function hands its own position on. Each answer cites the law of its token. Assumes nothing.
use Prim.Native.Nat.{◌+◌, ◌-◌, ◌*◌}
use lib.ListN.{length}
use Rattle.bounds.proofs.Scope.+condition_expression_two.Given as goal

abbrev pub decreases-condition : goal.decreases-condition
decreases-condition l = 2 * (length l.self.now.frame.now - l.at)

abbrev pub decreases-expression : goal.decreases-expression
decreases-expression l = 2 * (length l.self.now.frame.now - l.at)

abbrev pub decreases-two : goal.decreases-two
decreases-two l = 2 * (length l.self.now.frame.now - l.at) + 1
