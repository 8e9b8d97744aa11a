-- `cases::needs::set_behind` meets its contract. Assumes nothing.
use Rattle.cases.proofs.FlagLaws.{behind-other, behind-later, behind-here}
use Rattle.cases.proofs.needs.set_behind.Goals as goal

pub returns-then-item_at-ne23 : goal.returns-then-item_at-ne23
returns-then-item_at-ne23 c =
    let a = c.args in
    behind-other a.v a.frame.now a.i _ c.item_at.ensures c.if-item_at-ne23.true

pub returns-then-v-named : goal.returns-then-v-named
returns-then-v-named c =
    let a = c.args in
    behind-later a.v a.frame.now a.i _ c.item_at-named.ensures c.if-v-named.true

pub returns : goal.returns
returns c =
    let a = c.args in
    behind-here a.v a.frame.now a.i _ c.item_at.ensures c.if-item_at-ne23.false
    c.item_at-named.ensures c.if-v-named.false c.put_item.ensures
