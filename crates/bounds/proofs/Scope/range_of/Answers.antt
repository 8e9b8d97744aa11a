-- `bounds::Scope::range_of` meets its contract. Assumes nothing.
use mathlib.Core.Path.{◌∙◌}
use borrow.Author.Rules.{rules}
use Rattle.catalog.proofs.ItemLaws.{items-number}
use Rattle.bounds.proofs.Columns.{no_item, some_item}
use Rattle.bounds.proofs.Scope.range_of.Goals as goal

pub returns-then-self-item : goal.returns-then-self-item
returns-then-self-item c = no_item _ _ _ _ (rw (items-number _) c.if-self-item.true)

pub returns : goal.returns
returns c = some_item _ _ _ _ (rw (items-number _) c.if-self-item.false) (search rules) (search rules) (c.range_at.ensures ∙ rw c.relation-relation.ensures)
