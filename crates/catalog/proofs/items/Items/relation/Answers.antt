-- `catalog::items::Items::relation` meets its contract. Assumes nothing.
use mathlib.Core.Path.{sym, ◌∙◌}
use borrow.Author.Rules.{rules}
use Rattle.catalog.proofs.ItemLaws.{relation-past, relation-there}
use Rattle.catalog.proofs.items.Items.relation.Goals as goal

pub returns-then-self-i : goal.returns-then-self-i
returns-then-self-i c = sym (relation-past _ _ c.if-self-i.true)

pub returns : goal.returns
returns c = c.item_at.ensures ∙ sym (relation-there _ _ (search rules))
