-- `checker::entries::column_in` meets its contract. Assumes nothing.
use mathlib.Core.Path.{ap}
use mir.Syntax.{w16}
use mir.Val.{SFits}
use mir.Facts.{to_z-of_z}
use borrow.Author.Rules.{rules}
use Rattle.value.specs.Value.{Column}
use Rattle.value.specs.Machine.{column_of}
use Rattle.range.specs.Ranges.{range_from as range_of}
use Rattle.checker.specs.Entries.{column_in}
use Rattle.checker.proofs.entries.column_in.Goals as goal

pub returns : goal.returns
unfolding column_in column_of
returns c = let f : SFits w16 c.domain_at-column.result.lo = search rules in
    let g : SFits w16 c.domain_at-column.result.hi = search rules in
    rw (c.column.ensures, to_z-of_z f, to_z-of_z g) (ap (λ (x : Column). range_of x.lo x.hi) c.domain_at-column.ensures)
