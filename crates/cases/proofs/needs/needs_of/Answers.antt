-- `cases::needs::needs_of` meets its contract. Assumes nothing.
use Rattle.cases.proofs.NeedLaws.{needs-alone}
use Rattle.cases.proofs.needs.needs_of.Goals as goal

pub returns : goal.returns
returns c = needs-alone (rw c.none.ensures at c.needs_with.ensures)
