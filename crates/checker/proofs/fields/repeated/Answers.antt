-- `checker::fields::repeated` meets its contract. Assumes nothing.
use mathlib.Core.Path.{◌≡◌, ap, sym, ◌∙◌}
use native.Mathlib.Omega.{arith}
use Rattle.text.specs.Refusals.{number_of}
use Rattle.text.proofs.Exits.{exit_is}
use Rattle.checker.specs.Faults.{fault_told}
use Rattle.checker.proofs.FaultLaws.{number-some, among-none, among-more, among-stop}
use Rattle.checker.proofs.fields.repeated.Goals as goal

pub loop-i-init : goal.loop-i-init
loop-i-init g c = λ fault h. among-none fault

pub loop-i-preserved : goal.loop-i-preserved
loop-i-preserved g c = λ fault h. among-more fault _ (c.loop-i.invariant fault h) (h c.loop-i.i (omega arith) _ c.in_ok-part.ensures)

pub returns-in_err-part : goal.returns-in_err-part
returns-in_err-part g c = λ fault h.
    let p : number_of c.in_err-part.field-0.0 ≡ fault c.loop-i.i = h c.loop-i.i (omega arith) _ c.in_err-part.ensures in
    ap fault_told (exit_is _ c.from_residual.ensures.1)
    ∙ p ∙ sym (among-stop fault c.loop-i.i c.args.n (omega arith) (c.loop-i.invariant fault h) (λ z. number-some _ (p ∙ z)))
