-- `checker::view_bytes::repeated` meets its contract. Assumes nothing.
use mathlib.Core.Path.{sym, subst}
use Rattle.text.proofs.Exits.{exit_is}
use Rattle.checker.specs.ViewFaults.{Times}
use Rattle.checker.proofs.ViewByteLaws.{left-all, left-more, left-stop, left-none}
use Rattle.checker.proofs.view_bytes.repeated.Goals as goal

pub loop-init : goal.loop-init
loop-init g c = left-all _ _

pub loop-preserved : goal.loop-preserved
loop-preserved g c = left-more c.loop.invariant c.loop-test.true c.in_ok-next.ensures

pub returns-in_err-next : goal.returns-in_err-next
returns-in_err-next g c = subst (λ r. Times (goal.F-post g c.args.form) c.args.at c.args.n r) (sym (exit_is _ c.from_residual.ensures.1))
    (left-stop c.loop.invariant c.loop-test.true c.in_err-next.ensures)

pub returns : goal.returns
returns g c = left-none c.loop.invariant c.loop-test.false
