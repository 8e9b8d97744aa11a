-- `prefix::Reader::place` meets its contract. Assumes nothing.
use lib.Dec.{ltb}
use lib.ListN.{get_or}
use mathlib.Core.Path.{sym, ap, ap₂, ◌∙◌}
use Rattle.text.proofs.Exits.{exit_is}
use Rattle.text.specs.Refusals.{number_of}
use Rattle.prefix.specs.Skipped.{skip_told}
use Rattle.catalog.specs.Items.{relations_in, widths_in}
use Rattle.catalog.proofs.ItemLaws.{widths-number}
use Rattle.prefix.proofs.Fields.{form-is-4, place-next, place-stop}
use Rattle.prefix.proofs.Reader.place.Goals as goal

pub returns-in_err-next : goal.returns-in_err-next
returns-in_err-next c =
    let s = c.args.self.now in
    ap skip_told (exit_is _ c.from_residual.ensures.1)
    ∙ sym (place-stop _ _ (widths_in s.relations.now (relations_in s.setting.items))
    (ap₂ ltb c.item_at-item.ensures (widths-number s.setting.items s.relations.now)) (c.tested.ensures number_of form-is-4) (ap skip_told c.in_err-next.was))

pub returns : goal.returns
returns c =
    let s = c.args.self.now in
    c.below.ensures number_of form-is-4
    ∙ sym (place-next _ _ (widths_in s.relations.now (relations_in s.setting.items))
    (ap₂ ltb c.item_at-item.ensures (widths-number s.setting.items s.relations.now)) (c.tested.ensures number_of form-is-4) (ap skip_told c.in_ok-next.was)
    (c.width.ensures ∙ ap (λ i. get_or (widths_in s.relations.now (relations_in s.setting.items)) i 0) c.item_at-item.ensures))
