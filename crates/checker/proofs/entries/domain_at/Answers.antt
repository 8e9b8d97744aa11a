-- `checker::entries::domain_at` meets its contract. Assumes nothing.
use mir.Syntax.{w16}
use Rattle.value.proofs.Fits.{back}
use Rattle.value.specs.Machine.{column_of}
use Rattle.checker.specs.Entries.{column_from}
use Rattle.checker.proofs.entries.domain_at.Goals as goal

pub returns : goal.returns
unfolding column_from column_of
returns c = rw (
  back w16 _ c.from_bytes-lo.type_inv,
  back w16 _
      c.from_bytes-hi.type_inv,
  c.from_bytes-lo.ensures,
  c.from_bytes-hi.ensures,
  c.item_at.ensures,
  c.item_at-2.ensures,
  c.item_at-3.ensures,
  c.item_at-4.ensures,
)
