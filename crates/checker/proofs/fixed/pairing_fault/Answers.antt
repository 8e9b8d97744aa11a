-- `checker::fixed::pairing_fault` meets its contract. Assumes nothing.
use native.Mathlib.Omega.{arith}
use mathlib.Core.Path.{◌≡◌, sym, ap, ◌∙◌}
use Prim.Native.Nat.{◌-◌}
use Rattle.text.proofs.Exits.{exit_is}
use Rattle.checker.specs.Faults.{fault_told}
use Rattle.checker.proofs.FaultLaws.{number-some}
use Rattle.checker.proofs.PairLaws.{pairing-stop, pairing-go, pairing-end}
use Rattle.checker.proofs.fixed.pairing_fault.Goals as goal

pub loop-i-init : goal.loop-i-init
loop-i-init c = let e : c.args.width - 0 ≡ c.args.width = omega arith in rw e

pub returns-in_err-column_pairing : goal.returns-in_err-column_pairing
returns-in_err-column_pairing c =
    ap fault_told (exit_is _ c.from_residual.ensures.1)
    ∙ sym (pairing-stop c.args.frame.now c.args.n c.args.width c.loop-i.i c.loop-i.rest _ c.loop-i-test.true c.in_err-column_pairing.ensures (number-some _))
    ∙ c.loop-i.invariant

pub loop-i-preserved : goal.loop-i-preserved
loop-i-preserved c =
    sym (pairing-go c.args.frame.now c.args.n c.args.width c.loop-i.i c.loop-i.rest c.loop-i-test.true c.in_ok-column_pairing.ensures) ∙ c.loop-i.invariant

pub returns : goal.returns
returns c = sym (pairing-end c.args.frame.now c.args.n c.args.width c.loop-i.i c.loop-i.rest c.loop-i-test.false) ∙ c.loop-i.invariant
