-- `range::Range::aggregated` meets its contract. Assumes nothing.
use mathlib.Core.Logic.{⊎_elim}
use mathlib.Core.Path.{sym, ap, ◌∙◌}
use mir.Syntax.{w32}
use mir.Val.{SFits}
use borrow.Author.Rules.{rules}
use Rattle.range.specs.Ranges.{ranged_told}
use Rattle.range.proofs.Bits32.{ranged-fits, ranged-told}
use Rattle.range.proofs.Range.aggregated.Goals as goal

pub returns-in-Minimum : goal.returns-in-Minimum
returns-in-Minimum c = let a : SFits w32 c.args.self.lo = search rules in
    let b : SFits w32 c.args.self.hi = search rules in
    let kept = sym (ap ranged_told (ranged-fits c.args.self a b)) ∙ ranged-told _ in
    ⊎_elim (λ e. rw e kept) (λ e. rw e kept) c.in-Minimum.is
