-- `catalog::items::from_items` meets its contract. Assumes nothing.
use mathlib.Core.Path.{ap}
use Rattle.catalog.specs.Items.{items_of}
use Rattle.catalog.proofs.items.from_items.Goals as goal

pub returns : goal.returns
unfolding items_of
returns c = rw (c.six_of.ensures, c.min.ensures) (ap items_of c.from_list-list.ensures)
