-- `cases::needs::set_looked` meets its contract. Assumes nothing.
use mathlib.Core.Path.{◌≡◌, subst}
use native.Mathlib.Omega.{arith}
use lib.ListN.{length}
use Rattle.cases.specs.Needs.{behind_to, NamesSet}
use Rattle.cases.proofs.FlagLaws.{behind-none, behind_more}
use Rattle.cases.proofs.needs.set_looked.Goals as goal

pub loop-i-init : goal.loop-i-init
loop-i-init c = behind-none c.args.v c.args.frame.now _

pub loop-i-preserved : goal.loop-i-preserved
loop-i-preserved c =
    let a = c.args in
    behind_more a.v a.frame.now _ c.loop-i.invariant c.set_behind.ensures

pub returns : goal.returns
returns c =
    let a = c.args in
    let all : c.loop-i.i ≡ length a.frame.now = omega arith in
    subst (λ n. NamesSet (behind_to a.v a.frame.now n) a.flags.now c.loop-i.flags) all c.loop-i.invariant
