-- `checker::fixed::columns_fault` meets its contract. Assumes nothing.
use mathlib.Core.Path.{◌∙◌}
use Rattle.std.proofs.Common.{rules}
use Prim.Native.Nat.{◌+◌, ◌*◌}
use Rattle.language.specs.Frames.{column_field}
use Rattle.catalog.specs.Frames.{columns_start}
use Rattle.checker.specs.Faults.{fault_at}
use Rattle.checker.specs.FixedFaults.{columns_fault}
use Rattle.checker.proofs.SizedLaws.{sized-column}
use Rattle.checker.proofs.FaultLaws.{among-times}
use Rattle.checker.proofs.fixed.columns_fault.Goals as goal

pub returns : goal.returns
unfolding columns_fault
returns c = c.repeated.ensures (λ i. fault_at c.args.frame.now (columns_start + i * 4) column_field) (λ i l r p. search rules) ∙ among-times sized-column c.args.frame.now columns_start c.args.n
