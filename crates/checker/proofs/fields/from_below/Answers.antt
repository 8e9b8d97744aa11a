-- `checker::fields::from_below` meets its contract. Assumes nothing.
use Rattle.text.specs.Refusals.{number_of}
use mathlib.Core.Path.{sym}
use borrow.Author.Tests.{lt-ltb, le-ltb, le-leb, lt-leb}
use Rattle.checker.specs.Faults.{from_under}
use Rattle.checker.proofs.FieldLaws.{byte-missing, byte_fits, byte-wrong}
use Rattle.checker.proofs.fields.from_below.Goals as goal

pub returns-then-frame-at : goal.returns-then-frame-at
returns-then-frame-at c = sym (byte-missing c.args.frame.now c.args.at (number_of c.args.reason) (from_under c.args.lo c.args.n) c.if-frame-at.true)

pub returns-then-i-lo : goal.returns-then-i-lo
returns-then-i-lo c = sym (byte-wrong c.args.frame.now c.args.at (number_of c.args.reason)
    (from_under c.args.lo c.args.n) c.if-frame-at.false (rw (lt-leb _ _ c.if-i-lo.true)))

pub returns-then-i-n : goal.returns-then-i-n
returns-then-i-n c = sym (byte_fits c.args.frame.now c.args.at (number_of c.args.reason)
    (from_under c.args.lo c.args.n) c.if-frame-at.false (rw (le-leb _ _ c.if-i-lo.false, lt-ltb _ _ c.if-i-n.true)))

pub returns-else-i-n : goal.returns-else-i-n
returns-else-i-n c = sym (byte-wrong c.args.frame.now c.args.at (number_of c.args.reason)
    (from_under c.args.lo c.args.n) c.if-frame-at.false (rw (le-leb _ _ c.if-i-lo.false, le-ltb _ _ c.if-i-n.false)))
