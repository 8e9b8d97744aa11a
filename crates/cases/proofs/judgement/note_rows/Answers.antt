-- `cases::judgement::note_rows` meets its contract. Assumes nothing.
use Rattle.cases.proofs.JudgementLaws.{rows-unneeded, rows-noted}
use Rattle.cases.proofs.judgement.note_rows.Goals as goal

pub returns-then-not-item_at : goal.returns-then-not-item_at
returns-then-not-item_at c = rows-unneeded c.item_at.ensures (c.if-not-item_at.true)

pub returns : goal.returns
returns c = rows-noted c.view_rows-n.ensures c.put_item.ensures
