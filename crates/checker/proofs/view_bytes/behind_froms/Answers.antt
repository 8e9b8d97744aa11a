-- `checker::view_bytes::behind_froms` meets its contract. Assumes nothing.
use Rattle.checker.specs.ViewFaults.{behind_froms}
use Rattle.checker.proofs.view_bytes.behind_froms.Goals as goal

pub returns-in-Basic : goal.returns-in-Basic
unfolding behind_froms
returns-in-Basic c = rw c.in-Basic.is c.counted_select.ensures

pub returns-in-Aggregate : goal.returns-in-Aggregate
unfolding behind_froms
returns-in-Aggregate c = rw c.in-Aggregate.is c.counted_groups.ensures
