-- `cases::validity::Table::differs_from_earlier` meets its contract. Assumes nothing.
use mathlib.Core.Path.{refl, sym, ◌∙◌}
use Prim.Native.Nat.{ℕ}
use native.Mathlib.Omega.{arith}
use borrow.Author.Rules.{rules}
use Rattle.std.proofs.lemmas.Iterator.{YieldsList-from_range}
use Rattle.std.proofs.lemmas.Iterator.Search.{all_from_yields_List}
use Rattle.cases.specs.Validity.{differ_in}
use Rattle.cases.proofs.RowTests.{all-in-range}
use Rattle.cases.proofs.KeyLaws.{earlier-is}
use Rattle.cases.proofs.validity.Table.differs_from_earlier.Goals as goal

pub returns : goal.returns
returns c =
    let a = c.args in
    let s = a.self.now in
    let differs = λ (i : ℕ). differ_in a.work.now s.number i a.j s.width s.mask in
    earlier-is _ _ _ _ _ (sym (all_from_yields_List differs _ _ c.all.result c.all.ensures.ran
    (YieldsList-from_range 0 a.j a.j refl (omega arith)) (λ x b q k. search rules) ∙ all-in-range differs a.j))
