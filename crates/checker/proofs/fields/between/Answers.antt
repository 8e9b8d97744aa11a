-- `checker::fields::between` meets its contract. Assumes nothing.
use mathlib.Core.Path.{sym, ◌∙◌}
use borrow.Author.Tests.{le-leb, lt-leb}
use Rattle.checker.specs.Faults.{within}
use Rattle.checker.proofs.FieldLaws.{byte-missing, byte_fits, byte-wrong}
use Rattle.checker.proofs.fields.between.Goals as goal

pub returns-then-frame-at : goal.returns-then-frame-at
returns-then-frame-at g c = λ number form. form _ c.from.ensures
    ∙ sym (byte-missing c.args.frame.now c.args.at (number c.args.reason) (within c.args.lo c.args.hi) c.if-frame-at.true)

pub returns-then-b-lo : goal.returns-then-b-lo
returns-then-b-lo g c = λ number form. sym (byte-wrong c.args.frame.now c.args.at (number c.args.reason)
    (within c.args.lo c.args.hi) c.if-frame-at.false (rw (lt-leb _ _ c.if-b-lo.true)))

pub returns-then-hi-b : goal.returns-then-hi-b
returns-then-hi-b g c = λ number form. sym (byte-wrong c.args.frame.now c.args.at (number c.args.reason)
    (within c.args.lo c.args.hi) c.if-frame-at.false (rw (le-leb _ _ c.if-b-lo.false, lt-leb _ _ c.if-hi-b.true)))

pub returns : goal.returns
returns g c = λ number form. sym (byte_fits c.args.frame.now c.args.at (number c.args.reason)
    (within c.args.lo c.args.hi) c.if-frame-at.false (rw (le-leb _ _ c.if-b-lo.false, le-leb _ _ c.if-hi-b.false)))
