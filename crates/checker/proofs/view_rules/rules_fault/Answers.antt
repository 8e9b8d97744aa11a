-- `checker::view_rules::rules_fault` meets its contract. Assumes nothing.
use borrow.Author.Tests.{le-leb, lt-leb}
use Rattle.checker.specs.ViewRules.{view_fault}
use Rattle.checker.proofs.view_rules.rules_fault.Goals as goal

pub returns-then-not-allowed : goal.returns-then-not-allowed
unfolding view_fault
returns-then-not-allowed c = rw c.if-not-allowed.true

pub returns-then-bound-gt64 : goal.returns-then-bound-gt64
unfolding view_fault
returns-then-bound-gt64 c = rw (c.if-not-allowed.false, lt-leb _ _ c.if-bound-gt64.true)

pub returns-then-within : goal.returns-then-within
unfolding view_fault
returns-then-within c = rw (c.if-not-allowed.false, le-leb _ _ c.if-bound-gt64.false, c.if-within.true)

pub returns-else-within : goal.returns-else-within
unfolding view_fault
returns-else-within c = rw (c.if-not-allowed.false, le-leb _ _ c.if-bound-gt64.false, c.if-within.false)
