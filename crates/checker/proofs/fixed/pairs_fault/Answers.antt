-- `checker::fixed::pairs_fault` meets its contract. Assumes nothing.
use mathlib.Core.Path.{◌∙◌}
use Rattle.std.proofs.Common.{rules}
use Prim.Native.Nat.{◌+◌, ◌*◌}
use Rattle.language.specs.Frames.{pair_field}
use Rattle.checker.specs.Faults.{fault_at}
use Rattle.checker.specs.FixedFaults.{pairs_fault}
use Rattle.checker.proofs.SizedLaws.{sized-pair}
use Rattle.checker.proofs.FaultLaws.{among-times}
use Rattle.checker.proofs.fixed.pairs_fault.Goals as goal

pub returns : goal.returns
unfolding pairs_fault
returns c =
    let a = c.args in
    c.repeated.ensures (λ i. fault_at a.frame.now (4 + i * 2) (pair_field a.c a.p)) (λ i l r p. search rules) ∙ among-times (sized-pair a.c a.p) a.frame.now 4 a.n
