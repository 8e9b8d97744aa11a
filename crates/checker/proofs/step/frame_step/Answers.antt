-- `checker::step::frame_step` meets its contract. Assumes nothing.
use mathlib.Core.Path.{sym, ap, ◌∙◌}
use native.Mathlib.Omega.{arith}
use Rattle.text.proofs.Exits.{exit_is}
use Rattle.checker.specs.Faults.{fault_told}
use Rattle.checker.proofs.StepLaws.{turned_kind, stepped-empty, stepped-turn, stepped-body}
use Rattle.checker.proofs.step.frame_step.Goals as goal

pub returns-then-frame-eq0 : goal.returns-then-frame-eq0
returns-then-frame-eq0 c = stepped-empty c.if-frame-eq0.true

pub returns-in_err-kind : goal.returns-in_err-kind
returns-in_err-kind c = stepped-turn (omega arith) _ _ (exit_is _ c.from_residual.ensures.1) (sym (ap fault_told c.in_err-kind.was) ∙ c.turn.ensures.0)

pub returns : goal.returns
returns c = stepped-body (omega arith) _ _ (sym (ap fault_told c.in_ok-kind.was) ∙ c.turn.ensures.0) (turned_kind _ _ (c.turn.ensures.1 _ c.in_ok-kind.was) c.body_step.ensures)
