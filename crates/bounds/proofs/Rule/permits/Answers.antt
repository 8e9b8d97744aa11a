-- `bounds::Rule::permits` meets its contract. Assumes nothing.
use mathlib.Core.Logic.{⊎_elim}
use Rattle.bounds.proofs.Columns.{past-grouping, columns-where, columns-plain, columns-grouping}
use Rattle.bounds.proofs.Rule.permits.Goals as goal

pub returns-in-Grouped : goal.returns-in-Grouped
returns-in-Grouped c = rw (columns-grouping c.args.frame.now c.args.self c.in-Grouped.is)
    (past-grouping _ _ _ _ _ (rw c.min.ensures at c.grouping.ensures))

pub returns-in-Where : goal.returns-in-Where
returns-in-Where c = ⊎_elim (λ e. rw (columns-where c.args.frame.now c.args.self e)) (λ e. rw (columns-plain c.args.frame.now c.args.self e)) c.in-Where.is
