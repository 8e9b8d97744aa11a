-- `checker::view_bytes::places` meets its contract. Assumes nothing.
use mathlib.Core.Path.{◌≡◌, ◌∙◌}
use Rattle.std.proofs.Common.{rules}
use Rattle.language.specs.Reading.{place}
use Rattle.prefix.specs.Skipped.{skip_told, skipped}
use Rattle.catalog.specs.Items.{relations_in, widths_in}
use Rattle.checker.proofs.ViewByteLaws.{place-skips, place-field, times-skip}
use Rattle.checker.proofs.view_bytes.places.Goals as goal

pub returns : goal.returns
returns c =
    let s = c.args.reader.now in
    let cols = widths_in s.relations.now (relations_in s.setting.items) in
    times-skip s.frame.now (place-field cols) (λ at r p.
    let e : skip_told r ≡ skipped s.frame.now at (place cols) = search rules in
    e ∙ place-skips s.frame.now cols at) c.requires c.repeated.ensures
