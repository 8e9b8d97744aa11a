-- `cases::judgement::evaluate` meets its contract. Assumes nothing.
use Rattle.cases.proofs.JudgementLaws.{turned_none, turned_more, turned-all}
use Rattle.cases.proofs.judgement.evaluate.Goals as goal

pub loop-v-init : goal.loop-v-init
loop-v-init c = turned_none

pub loop-v-preserved : goal.loop-v-preserved
loop-v-preserved c =
    turned_more c.loop-v.invariant c.loop-v-test.true
    c.frame-frame.ensures c.note_sign.ensures c.note_rows.ensures

pub returns : goal.returns
returns c = turned-all c.loop-v.invariant c.loop-v-test.false
