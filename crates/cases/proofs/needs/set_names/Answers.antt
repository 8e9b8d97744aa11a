-- `cases::needs::set_names` meets its contract. Assumes nothing.
use Rattle.cases.proofs.FlagLaws.{flags-none, names_more, names-all}
use Rattle.cases.proofs.needs.set_names.Goals as goal

pub loop-named-init : goal.loop-named-init
loop-named-init c = flags-none _

pub loop-named-preserved : goal.loop-named-preserved
loop-named-preserved c = names_more _ _ _ _ _ c.loop-named-test.true c.loop-named.invariant c.put_item.ensures

pub returns : goal.returns
returns c = names-all c.loop-named-test.false c.loop-named.invariant
