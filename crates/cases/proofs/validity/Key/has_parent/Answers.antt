-- `cases::validity::Key::has_parent` meets its contract. Assumes nothing.
use mathlib.Core.Path.{refl, ◌∙◌}
use native.Mathlib.Omega.{arith}
use borrow.Author.Rules.{rules}
use Rattle.std.proofs.lemmas.Iterator.{YieldsList-from_range}
use Rattle.std.proofs.lemmas.Iterator.Search.{any_from_yields_List}
use Rattle.cases.specs.Validity.{agrees_in}
use Rattle.cases.proofs.RowTests.{any-in-range}
use Rattle.cases.proofs.validity.Key.has_parent.Goals as goal

pub returns : goal.returns
returns c =
    let a = c.args in
    let agrees = agrees_in a.self.now.frame.now a.self.now.parts a.work.now a.i in
    any_from_yields_List agrees _ _ c.any.result c.any.ensures.ran
    (YieldsList-from_range 0 a.rows a.rows refl (omega arith)) (λ x b q k. search rules) ∙ any-in-range agrees a.rows
