-- `views::sets::FirstRows::count_of` meets its contract. Assumes nothing.
use mathlib.Core.Path.{ap, ◌∙◌}
use native.Mathlib.Omega.{arith}
use Rattle.value.specs.Bag.{tick}
use Rattle.store.specs.Rows.{row_in}
use Rattle.views.proofs.Intersecting.{count_none, count-more, count-whole}
use Rattle.views.proofs.sets.FirstRows.count_of.Goals as goal

pub loop-j-init : goal.loop-j-init
loop-j-init c = let a = c.args in record { few = omega arith; counted = count_none a.work.now a.self.relation a.width (row_in a.work.now a.relation a.width a.i) }

pub overflow_add-k : goal.overflow_add-k
overflow_add-k c = omega (arith, c.loop-j.invariant.few, c.one_if-one.ensures.1)

pub loop-j-preserved : goal.loop-j-preserved
loop-j-preserved c =
    let a = c.args in
    let inv = c.loop-j.invariant in
    record {
      few = omega (arith, inv.few, c.one_if-one.ensures.1);
      counted = count-more a.work.now a.self.relation a.width c.loop-j.j _ _ (row_in a.work.now a.relation a.width a.i) inv.counted
          (c.one_if-one.ensures.0 ∙ ap (λ t. tick t 0) c.same_rows.ensures);
    }

pub returns : goal.returns
returns c =
    let a = c.args in
    count-whole a.work.now a.self.relation a.width a.self.count c.loop-j.j (row_in a.work.now a.relation a.width a.i)
    c.loop-j.auto.j-end c.loop-j-test.false c.loop-j.invariant.counted
