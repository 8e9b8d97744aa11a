-- `cases::validity::keys_hold` meets its contract. Assumes nothing.
use mathlib.Core.Path.{refl, ◌∙◌}
use native.Mathlib.Omega.{arith}
use borrow.Author.Rules.{rules}
use Rattle.std.proofs.lemmas.Iterator.{YieldsList-from_range}
use Rattle.std.proofs.lemmas.Iterator.Search.{all_from_yields_List}
use Rattle.cases.specs.Validity.{key_at}
use Rattle.cases.proofs.RowTests.{all-in-range}
use Rattle.cases.proofs.KeyLaws.{key-there}
use Rattle.cases.proofs.validity.keys_hold.Goals as goal

pub returns : goal.returns
returns c =
    let a = c.args in
    let holds = key_at a.relations.now a.counts.now a.work.now in
    all_from_yields_List holds _ _ c.all.result c.all.ensures.ran
    (YieldsList-from_range 0 a.tables a.tables refl (omega arith)) (λ x b q k. search (rules, key-there)) ∙ all-in-range holds a.tables
