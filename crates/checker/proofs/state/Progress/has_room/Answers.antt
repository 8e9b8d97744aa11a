-- `checker::state::Progress::has_room` meets its contract. Assumes nothing.
use Rattle.checker.proofs.StandingLaws.{room-keys, room-goal, room-other}
use Rattle.checker.proofs.state.Progress.has_room.Goals as goal

pub returns-in-Keys : goal.returns-in-Keys
returns-in-Keys c = room-keys c.args.self c.in-Keys.is

pub returns-in-Goal : goal.returns-in-Goal
returns-in-Goal c = room-goal c.args.self c.in-Goal.is

pub returns-in_default : goal.returns-in_default
returns-in_default c = room-other c.args.self c.args.stage c.in_default.not-Keys c.in_default.not-Goal
