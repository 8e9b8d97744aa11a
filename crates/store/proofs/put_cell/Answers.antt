-- `store::put_cell` meets its contract. Assumes nothing.
use mir.Syntax.{w32}
use mathlib.Core.Path.{sym, ◌∙◌}
use Rattle.value.proofs.Fits.{back}
use Rattle.value.specs.Machine.{value_of}
use Rattle.store.proofs.CellLaws.{put-outside, put-past, put-found}
use Rattle.store.proofs.put_cell.Goals as goal

pub returns-then-not-inside : goal.returns-then-not-inside
returns-then-not-inside c =
    let a = c.args in
    sym (put-outside a.work.now a.relation a.row a.column (value_of a.v) (sym c.inside.ensures.told ∙ c.if-not-inside.true))

pub returns-then-work-place : goal.returns-then-work-place
returns-then-work-place c =
    let a = c.args in
    sym (put-past a.work.now a.relation a.row a.column (value_of a.v) (rw (← c.position-place.ensures) c.if-work-place.true))

pub returns : goal.returns
returns c =
    let a = c.args in
    let e = sym c.inside.ensures.told ∙ c.if-not-inside.false in
    rw (back w32 _ c.stored.type_inv, c.stored.ensures, c.position-place.ensures, put-found a.work.now a.relation a.row a.column (value_of a.v) e)
