-- `cases::validity::foreign_key_holds` meets its contract. Assumes nothing.
use mathlib.Core.Path.{refl, sym, ◌∙◌}
use native.Mathlib.Omega.{arith}
use borrow.Author.Rules.{rules}
use Rattle.std.proofs.lemmas.Iterator.{YieldsList-from_range}
use Rattle.std.proofs.lemmas.Iterator.Search.{all_from_yields_List}
use Rattle.cases.specs.Validity.{has_parent_in}
use Rattle.cases.proofs.RowTests.{all-in-range}
use Rattle.cases.proofs.ForeignLaws.{key-is}
use Rattle.cases.proofs.validity.foreign_key_holds.Goals as goal

pub returns : goal.returns
returns c =
    let a = c.args in
    let has = has_parent_in a.frame.now c.key_parts-parts.result a.work.now c.item_at-parents.result in
    let n = c.item_at-children.result in
    key-is _ _ _ c.key_parts-parts.ensures c.item_at-children.ensures c.item_at-parents.ensures
    (sym (all_from_yields_List has _ _ c.all.result c.all.ensures.ran
    (YieldsList-from_range 0 n n refl (omega arith)) (λ x b q k. search rules) ∙ all-in-range has n))
