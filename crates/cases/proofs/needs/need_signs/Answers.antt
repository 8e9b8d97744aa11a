-- `cases::needs::need_signs` meets its contract. Assumes nothing.
use Rattle.cases.proofs.NeedLaws.{signs-set, signs-kept}
use Rattle.cases.proofs.needs.need_signs.Goals as goal

pub returns-then-not-asked-item_at : goal.returns-then-not-asked-item_at
returns-then-not-asked-item_at c = signs-kept c.item_at-asked.ensures (rw (← c.item_at.ensures) c.if-not-asked-item_at.true)

pub returns : goal.returns
returns c =
    signs-set c.item_at-asked.ensures (rw (← c.item_at.ensures) c.if-not-asked-item_at.false) c.names.ensures c.set_names.ensures
