-- `checker::fixed::table_head` meets its contract. Assumes nothing.
use mathlib.Core.Path.{ap, ◌∙◌}
use Rattle.language.specs.Reading.{byte_if}
use Rattle.checker.specs.Faults.{fault_at, under}
use Rattle.checker.specs.FixedFaults.{table_head}
use Rattle.checker.proofs.FaultLaws.{told, chain-stop, chain-go}
use Rattle.checker.proofs.fixed.table_head.Goals as goal

pub returns-in_err-between : goal.returns-in_err-between
unfolding table_head
returns-in_err-between c = chain-stop _ _ _ c.from_residual.ensures.1 (told c.in_err-between.ensures)

pub returns-in_err-between-2 : goal.returns-in_err-between-2
unfolding table_head
returns-in_err-between-2 c = chain-go (told c.in_ok-between.ensures) (chain-stop _ _ _ c.from_residual-in_err-between-2.ensures.1 (told c.in_err-between-2.ensures))

pub returns : goal.returns
unfolding table_head
returns c = chain-go (told c.in_ok-between.ensures) (chain-go (told c.in_ok-between-2.ensures)
    (c.below.ensures ∙ ap (λ k. fault_at c.args.frame.now 3 (byte_if 5 (under k))) c.masks_of.ensures))
