-- `sentences::words::past_lines` meets its contract. Assumes nothing.
use mathlib.Core.Path.{◌≡◌, sym, ap, ◌∙◌}
use Prim.Native.Nat.{suc, ◌+◌, ◌-◌}
use native.Mathlib.Omega.{arith}
use Rattle.sentences.specs.Pieces.{past_lines}
use Rattle.sentences.proofs.words.past_lines.Goals as goal

pub loop-preserved : goal.loop-preserved
unfolding past_lines
loop-preserved c =
    let l = c.loop in
    let left = c.args.k - (l.counter + 1) in
    let e : c.args.k - l.counter ≡ suc left = omega (arith, c.loop-test.true) in
    ap (past_lines left) c.past_line-rest.ensures ∙ sym (ap (λ n. past_lines n l.rest.now) e) ∙ l.invariant

pub returns : goal.returns
unfolding past_lines
returns c =
    let l = c.loop in
    let e : c.args.k - l.counter ≡ 0 = omega (arith, c.loop-test.false) in
    sym (ap (λ n. past_lines n l.rest.now) e) ∙ l.invariant
