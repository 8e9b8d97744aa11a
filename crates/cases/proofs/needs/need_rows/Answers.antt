-- `cases::needs::need_rows` meets its contract. Assumes nothing.
use Rattle.cases.proofs.NeedLaws.{rows-set, rows-kept}
use Rattle.cases.proofs.needs.need_rows.Goals as goal

pub returns-then-not-needed-asked : goal.returns-then-not-needed-asked
returns-then-not-needed-asked c =
    rows-kept c.item_at-needed.ensures c.item_at-asked.ensures (rw (← c.item_at.ensures) c.if-not-needed-asked.true)

pub returns : goal.returns
returns c =
    rows-set c.item_at-needed.ensures c.item_at-asked.ensures (rw (← c.item_at.ensures) c.if-not-needed-asked.false) c.set_named.ensures
