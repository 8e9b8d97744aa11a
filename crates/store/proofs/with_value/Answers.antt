-- `store::with_value` meets its contract. Assumes nothing.
use borrow.Author.Rules.{rules}
use mathlib.Core.Path.{sym}
use native.Mathlib.Omega.{arith}
use Rattle.value.specs.Machine.{value_of}
use Rattle.store.specs.Rows.{row_of}
use Rattle.store.proofs.RowLaws.{with-past, with-set}
use Rattle.store.proofs.with_value.Goals as goal

pub returns-then-c-ge-COLUMNS : goal.returns-then-c-ge-COLUMNS
returns-then-c-ge-COLUMNS c =
    let a = c.args in
    λ w. sym (with-past (row_of a.row w) a.c (value_of a.v) (search rules))

pub returns : goal.returns
returns c =
    let a = c.args in
    λ w. with-set a.row a.c a.v w (search rules) (omega (arith, c.well_formed.0.1.1.0.1.0.1))
