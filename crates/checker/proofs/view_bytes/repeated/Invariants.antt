-- `checker::view_bytes::repeated` meets its contract. Assumes nothing.
use Rattle.checker.proofs.ViewByteLaws.{Left}
use Rattle.checker.proofs.view_bytes.repeated.Given as goal

abbrev pub invariant-loop : goal.invariant-loop
invariant-loop g l = Left (goal.F-post g l.form) l.at l.n l.next l.counter
