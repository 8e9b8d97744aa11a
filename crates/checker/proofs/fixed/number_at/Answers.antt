-- `checker::fixed::number_at` meets its contract. Assumes nothing.
use mathlib.Core.Path.{ap₂, ◌∙◌}
use mir.Syntax.{w16}
use Rattle.value.specs.Integer.{bytes_z}
use Rattle.value.proofs.Fits.{back}
use Rattle.checker.proofs.fixed.number_at.Goals as goal

pub returns : goal.returns
returns c = back w16 _ c.from_bytes.type_inv ∙ c.from_bytes.ensures ∙ ap₂ (λ h l. bytes_z h l) c.item_at.ensures
    c.item_at-2.ensures
