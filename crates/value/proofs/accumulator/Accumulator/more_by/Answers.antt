-- `value::accumulator::Accumulator::more_by` meets its contract. Assumes nothing.
use mathlib.Core.Path.{refl, ap, sym, ◌∙◌}
use mathlib.Core.Option.{some}
use mir.Syntax.{w32}
use mir.Val.{SFits}
use mir.Facts.{to_z-of_z}
use borrow.Author.Rules.{rules}
use Rattle.value.specs.Integer.{narrow32}
use Rattle.value.specs.Value.{more, narrowed_tally}
use Rattle.value.specs.Machine.{tally_of, kind_of}
use Rattle.value.proofs.Fits.{back, fits-narrow32}
use Rattle.value.proofs.accumulator.Accumulator.more_by.Goals as goal

pub returns-in-None : goal.returns-in-None
unfolding tally_of kind_of more narrowed_tally
returns-in-None c = let f : SFits w32 c.weight-n.result = record { sfits = c.weight-n.type_inv } in
    (rw c.in-None.is (ap some (to_z-of_z f ∙ sym (fits-narrow32 f) ∙ ap (λ z. narrow32 z) c.weight-n.ensures)), refl)

pub returns-in-Some : goal.returns-in-Some
unfolding tally_of kind_of more narrowed_tally
returns-in-Some c = let t : SFits w32 c.in-Some.t = search rules in
    (rw c.in-Some.is (ap some (rw (back w32 _ c.combined-total.type_inv, c.combined-total.ensures, to_z-of_z t, back w32 _ c.weight-n.type_inv, c.weight-n.ensures))), refl)
