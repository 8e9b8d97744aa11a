-- `prefix::step` meets its contract. Assumes nothing.
use mathlib.Core.Path.{◌≡◌, ap, sym, ◌∙◌}
use mathlib.Core.Bool.{◌&&◌}
use lib.Dec.{leb}
use borrow.Author.Rules.{rules}
use Rattle.text.proofs.Exits.{exit_is}
use Rattle.prefix.specs.Skipped.{skip_told}
use Rattle.language.specs.Reading.{two_bytes}
use Rattle.prefix.proofs.Skips.{then-stop}
use Rattle.prefix.proofs.Fields.{step_in, step-over}
use Rattle.prefix.proofs.step.Goals as goal

pub returns-in_err-next : goal.returns-in_err-next
returns-in_err-next c = ap skip_told (exit_is _ c.from_residual.ensures.1) ∙ sym (then-stop _ two_bytes _ _ _ c.two_bytes.ensures (ap skip_told c.in_err-next.was))

pub returns-then-contains : goal.returns-then-contains
returns-then-contains c =
    let inside : c.contains.result ≡ leb 1 c.word_at-number.result && leb c.word_at-number.result 1000 = search rules in
    sym (step_in _ _ c.two_bytes.ensures (ap skip_told c.in_ok-next.was)
    (ap (λ w. leb 1 w && leb w 1000) (sym c.word_at-number.ensures) ∙ sym inside ∙ c.if-contains.true))

pub returns-else-contains : goal.returns-else-contains
returns-else-contains c =
    let inside : c.contains.result ≡ leb 1 c.word_at-number.result && leb c.word_at-number.result 1000 = search rules in
    sym (step-over _ _ c.two_bytes.ensures (ap skip_told c.in_ok-next.was)
    (ap (λ w. leb 1 w && leb w 1000) (sym c.word_at-number.ensures) ∙ sym inside ∙ c.if-contains.false))
