-- `input::read` meets its contract. Assumes nothing.
use mathlib.Core.Path.{◌∙◌}
use native.Mathlib.Omega.{arith}
use borrow.Author.Rules.{rules}
use Rattle.input.proofs.InputLaws.{read-on, read-ended, same-room}
use Rattle.input.proofs.read.Goals as goal

pub returns-in_default : goal.returns-in_default
returns-in_default g c =
    let at = c.loop-done in
    let same = same-room at.done at.text c.read.new.buf (search rules) in
    read-ended c.read.result c.in_ok-input.ensures c.in_default.not-More (search rules) (same ∙ at.invariant.1)

pub loop-done-smaller : goal.loop-done-smaller
loop-done-smaller g c =
    let (further, within) = read-on c.read.result c.in_ok-input.ensures c.in-More.is (search rules) in
    omega (arith, c.loop-done.invariant.1)

pub loop-done-preserved : goal.loop-done-preserved
loop-done-preserved g c =
    let (further, within) = read-on c.read.result c.in_ok-input.ensures c.in-More.is (search rules) in
    let at = c.loop-done in
    let same = same-room at.done at.text c.read.new.buf (search rules) in
    (within, same ∙ at.invariant.1)
