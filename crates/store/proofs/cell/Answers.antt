-- `store::cell` meets its contract. Assumes nothing.
use borrow.Author.Rules.{rules}
use lib.IntN.{pos}
use lib.ListN.{get_or}
use mir.Syntax.{w32}
use mathlib.Core.Path.{sym, ◌∙◌}
use Rattle.value.proofs.Fits.{back}
use Rattle.store.proofs.CellLaws.{cell-outside, cell-past, cell-found}
use Rattle.store.proofs.cell.Goals as goal

pub returns-then-not-inside : goal.returns-then-not-inside
returns-then-not-inside c =
    let a = c.args in
    c.from_work.ensures ∙ sym (cell-outside a.work.now a.relation a.row a.column (sym c.inside.ensures.told ∙ c.if-not-inside.true))

pub returns-then-work-at : goal.returns-then-work-at
returns-then-work-at c =
    let a = c.args in
    c.from_work-then-work-at.ensures ∙ sym (cell-past a.work.now a.relation a.row a.column (rw (← c.position-at.ensures) c.if-work-at.true))

pub returns : goal.returns
returns c =
    let a = c.args in
    let e = sym c.inside.ensures.told ∙ c.if-not-inside.false in
    c.from_work-2.ensures ∙ rw (back w32 (get_or a.work.now c.position-at.result (pos 0)) (search rules), c.position-at.ensures) (sym (cell-found a.work.now a.relation a.row a.column e))
