-- `catalog::items::Items::opened` meets its contract. Assumes nothing.
use borrow.Author.Tests.{lt-ltb, le-ltb}
use Rattle.catalog.specs.Items.{opened_items}
use Rattle.catalog.proofs.items.Items.opened.Goals as goal

pub returns-then-number-ge6 : goal.returns-then-number-ge6
unfolding opened_items
returns-then-number-ge6 c = rw (le-ltb c.args.self.number 6 c.if-number-ge6.true)

pub returns : goal.returns
unfolding opened_items
returns c = rw (lt-ltb c.args.self.number 6 c.if-number-ge6.false, c.six_with.ensures)
