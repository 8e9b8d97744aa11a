-- `store::put_row` meets its contract. The loop has put the first c cells. Assumes nothing.
use native.Mathlib.Omega.{arith}
use lib.ListN.{length}
use mathlib.Core.Path.{◌≡◌, refl}
use Rattle.store.specs.Strides
use Rattle.store.proofs.RowLaws.{put_next}
use Rattle.store.proofs.put_row.Goals as goal

pub loop-c-init : goal.loop-c-init
unfolding Strides.put_cells
loop-c-init c = refl

pub loop-c-preserved : goal.loop-c-preserved
unfolding Strides.put_cells
loop-c-preserved c =
    let l = c.loop-c in
    let m : length c.args.row.values ≡ 8 = c.well_formed.1.1.1.0.1.1.0.1.0.1 in
    put_next c.args.part.now l.part c.put_cell.new.work c.args.at c.args.width l.c c.args.row _
    (omega arith) (omega arith) l.invariant c.put_cell.ensures
