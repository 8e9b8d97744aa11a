-- `cases::judgement::note_sign` meets its contract. Assumes nothing.
use native.Mathlib.Omega.{arith}
use Rattle.cases.proofs.JudgementLaws.{sign-unasked, sign-noted}
use Rattle.cases.proofs.judgement.note_sign.Goals as goal

pub returns-then-not-item_at : goal.returns-then-not-item_at
returns-then-not-item_at c = sign-unasked c.item_at.ensures (omega arith) (c.if-not-item_at.true)

pub returns : goal.returns
returns c = sign-noted c.is_refuted-sign.ensures c.one_if.ensures.0 c.put_item.ensures
