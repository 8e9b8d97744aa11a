-- `cases::validity::Table::key_holds` meets its contract. Assumes nothing.
use mathlib.Core.Path.{refl, sym, ◌∙◌}
use Prim.Native.Nat.{ℕ}
use native.Mathlib.Omega.{arith}
use borrow.Author.Tests.{eq-eqb}
use borrow.Author.Rules.{rules}
use Rattle.std.proofs.lemmas.Iterator.{YieldsList-from_range}
use Rattle.std.proofs.lemmas.Iterator.Search.{all_from_yields_List}
use Rattle.cases.specs.Validity.{differs_from_earlier_in}
use Rattle.cases.proofs.RowTests.{all-in-range}
use Rattle.cases.proofs.KeyLaws.{unkeyed-is, keyed-is}
use Rattle.cases.proofs.validity.Table.key_holds.Goals as goal

pub returns-then-self-eq0 : goal.returns-then-self-eq0
returns-then-self-eq0 c = rw (eq-eqb _ 0 c.if-self-eq0.true) (unkeyed-is _ _ _ _ _ c.if-self-eq0.true)

pub returns-else-self-eq0 : goal.returns-else-self-eq0
returns-else-self-eq0 c =
    let a = c.args in
    let s = a.self.now in
    let differs = λ (j : ℕ). differs_from_earlier_in a.work.now s.number j s.width s.mask in
    keyed-is _ _ _ _ _ c.if-self-eq0.false (sym (all_from_yields_List differs _ _ c.all.result c.all.ensures.ran
    (YieldsList-from_range 0 s.rows s.rows refl (omega arith)) (λ x b q k. search rules) ∙ all-in-range differs s.rows))
