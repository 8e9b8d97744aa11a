-- `store::put` meets its contract. The part that was lent has the relation as its relation 0; `put-lent` says it of the whole work area.
use mathlib.Core.Path.{sym, ◌∙◌}
use Rattle.store.specs.Layout.{sizes}
use Rattle.store.specs.Rows.{row_of}
use Rattle.store.proofs.StrideLaws.{put-none, put-lent}
use Rattle.store.proofs.put.Goals as goal

pub returns-then-not-room : goal.returns-then-not-room
returns-then-not-room c =
    let a = c.args in
    sym (put-none sizes a.work.now a.relation a.at a.width (row_of a.row a.width) (sym c.room.ensures.told ∙ c.if-not-room.true))

pub returns : goal.returns
returns c =
    let a = c.args in
    put-lent sizes a.work.now a.relation a.at a.width (row_of a.row a.width) c.put_row.new.part (sym c.room.ensures.told ∙ c.if-not-room.false) c.put_row.ensures
