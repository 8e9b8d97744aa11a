-- `catalog::items::six_with` meets its contract. Assumes nothing.
use borrow.Author.Rules.{rules}
use Rattle.catalog.proofs.ItemLaws.{six-set, six-past}
use Rattle.catalog.proofs.items.six_with.Goals as goal

pub returns-then-n-lt6 : goal.returns-then-n-lt6
returns-then-n-lt6 c = six-set c.args.bytes c.args.n c.args.x (search rules)

pub returns-else-n-lt6 : goal.returns-else-n-lt6
returns-else-n-lt6 c = six-past c.args.bytes c.args.n c.args.x (search rules) c.if-n-lt6.false
