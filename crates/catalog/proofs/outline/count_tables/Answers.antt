-- `catalog::outline::count_tables` meets its contract. Assumes nothing.
use Rattle.catalog.proofs.TableLaws.{counted_none, counted-more}
use Rattle.catalog.proofs.outline.count_tables.Goals as goal

pub loop-t-init : goal.loop-t-init
loop-t-init c = counted_none _ _

pub loop-t-preserved : goal.loop-t-preserved
loop-t-preserved c = counted-more c.loop-t.invariant c.bound_of.ensures c.put_item.ensures
