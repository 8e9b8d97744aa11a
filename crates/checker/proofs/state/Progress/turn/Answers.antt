-- `checker::state::Progress::turn` meets its contract. Assumes nothing.
use mathlib.Core.Path.{sym, ◌∙◌}
use mathlib.Core.Bool.{true, false}
use native.Mathlib.Omega.{arith}
use Rattle.checker.proofs.StandingLaws.{turn-none, kind-early, kind-room}
use Rattle.checker.proofs.state.Progress.turn.Goals as goal

pub returns-in_default : goal.returns-in_default
returns-in_default c = (turn-none c.args.self c.args.number (sym c.from_number.ensures ∙ c.in_default.is), λ k e. absurd (cc))

pub returns-then-number : goal.returns-then-number
returns-then-number c = (kind-early c.args.self c.args.number (sym c.from_number.ensures ∙ c.in-Some.is) c.of-stage.ensures (omega (arith, c.number.ensures, c.number-2.ensures, c.if-number.true)), λ k e. absurd (cc))

pub returns-then-has_room : goal.returns-then-has_room
returns-then-has_room c = (
  kind-room c.args.self c.args.number (sym c.from_number.ensures ∙ c.in-Some.is) c.of-stage.ensures (omega (arith, c.number.ensures, c.number-2.ensures, c.if-number.false)) true (sym c.if-has_room.true ∙ c.has_room.ensures),
  λ k e. sym c.from_number.ensures ∙ c.in-Some.is ∙ cc,
)

pub returns-else-has_room : goal.returns-else-has_room
returns-else-has_room c = (kind-room c.args.self c.args.number (sym c.from_number.ensures ∙ c.in-Some.is) c.of-stage.ensures (omega (arith, c.number.ensures, c.number-2.ensures, c.if-number.false)) false (sym c.if-has_room.false ∙ c.has_room.ensures), λ k e. absurd (cc))
