-- `cases::needs::set_named` meets its contract. Assumes nothing.
use Rattle.cases.proofs.FlagLaws.{names-append}
use Rattle.cases.proofs.needs.set_named.Goals as goal

pub returns : goal.returns
returns c = names-append (rw c.names.ensures at c.set_names.ensures)
    c.set_looked.ensures
