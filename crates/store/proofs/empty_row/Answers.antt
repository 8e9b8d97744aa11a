-- `store::empty_row` meets its contract. Assumes nothing.
use Rattle.store.proofs.RowLaws.{row-of-all}
use Rattle.store.proofs.empty_row.Goals as goal

pub returns : goal.returns
returns c = λ w. row-of-all 8 _ w (rw c.from_work-zero.ensures)
