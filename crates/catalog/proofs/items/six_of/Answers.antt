-- `catalog::items::six_of` meets its contract. Assumes nothing.
use Rattle.catalog.specs.Items.{bytes_at}
use Rattle.catalog.proofs.ItemLaws.{six-of-one}
use Rattle.catalog.proofs.items.six_of.Goals as goal

pub returns-then-names-lt2 : goal.returns-then-names-lt2
returns-then-names-lt2 c = rw c.item_at.ensures (six-of-one _ c.if-names-lt2.true)

pub returns : goal.returns
unfolding bytes_at
returns c = rw (
  c.item_at-2.ensures,
  c.item_at-3.ensures,
  c.item_at-4.ensures,
  c.item_at-5.ensures,
  c.item_at-6.ensures,
  c.item_at-7.ensures,
)
