-- `checker::view_rules::opening_of` meets its contract. Assumes nothing.
use mathlib.Core.Path.{ap, ◌∙◌}
use Rattle.catalog.specs.Items.{relations_in}
use Rattle.catalog.proofs.ItemLaws.{items_back}
use Rattle.checker.proofs.view_rules.opening_of.Goals as goal

pub returns : goal.returns
returns c = record {
  froms = λ h. ap relations_in
      c.from_items-items.ensures ∙ items_back _ h;
  parts_are = c.parts_after-parts.ensures;
  product = c.product_bound-bound.ensures;
  tested = c.filtered-filter.ensures;
}
