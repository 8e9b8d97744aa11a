-- `views::sets::same_rows` meets its contract. Assumes nothing.
use mathlib.Core.Path.{refl, ◌∙◌}
use native.Mathlib.Omega.{arith}
use borrow.Author.Rules.{rules}
use Rattle.std.proofs.lemmas.Iterator.{YieldsList-from_range}
use Rattle.std.proofs.lemmas.Iterator.Search.{all_from_yields_List}
use Rattle.value.proofs.Values.{datum_eq}
use Rattle.views.proofs.Intersecting.{alike_at, alike-all}
use Rattle.views.proofs.sets.same_rows.Goals as goal

pub returns : goal.returns
returns c =
    let a = c.args in
    all_from_yields_List (alike_at a.work.now a.a a.i a.b a.j) _ _ c.all.result c.all.ensures.ran
    (YieldsList-from_range 0 a.width a.width refl (omega arith)) (λ x b q k. search (datum_eq, rules)) ∙ alike-all a.work.now a.a a.i a.b a.j a.width
