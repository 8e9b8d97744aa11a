-- `catalog::items::Items::width` meets its contract. Assumes nothing.
use mathlib.Core.Path.{sym, ap, ◌∙◌}
use Rattle.catalog.specs.Relations.{width_at}
use Rattle.catalog.proofs.ItemLaws.{width-past, width-there}
use Rattle.catalog.proofs.items.Items.width.Goals as goal

pub returns-then-self-i : goal.returns-then-self-i
returns-then-self-i c = sym (width-past c.args.self _ c.args.relations.now c.if-self-i.true)

pub returns : goal.returns
returns c = c.width_of.ensures ∙ ap (width_at c.args.relations.now) c.relation.ensures ∙ sym (width-there c.args.self _ c.args.relations.now c.if-self-i.false)
