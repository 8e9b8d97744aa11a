-- `checker::fields::below` meets its contract. Assumes nothing.
use Rattle.text.specs.Refusals.{number_of}
use mathlib.Core.Path.{sym}
use borrow.Author.Tests.{lt-ltb, le-ltb}
use Rattle.checker.specs.Faults.{under}
use Rattle.checker.proofs.FieldLaws.{byte-missing, byte_fits, byte-wrong}
use Rattle.checker.proofs.fields.below.Goals as goal

pub returns-then-frame-at : goal.returns-then-frame-at
returns-then-frame-at c = sym (byte-missing c.args.frame.now c.args.at (number_of c.args.reason) (under c.args.n) c.if-frame-at.true)

pub returns-then-b-n : goal.returns-then-b-n
returns-then-b-n c = sym (byte_fits c.args.frame.now c.args.at (number_of c.args.reason) (under c.args.n) c.if-frame-at.false
    (lt-ltb _ _ c.if-b-n.true))

pub returns-else-b-n : goal.returns-else-b-n
returns-else-b-n c = sym (byte-wrong c.args.frame.now c.args.at (number_of c.args.reason) (under c.args.n) c.if-frame-at.false
    (le-ltb _ _ c.if-b-n.false))
