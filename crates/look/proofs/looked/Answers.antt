-- `look::looked` meets its contract. Assumes nothing.
use native.Mathlib.Omega.{arith}
use Rattle.look.proofs.LookLaws.{finds-short, finds-late, finds-told}
use Rattle.look.proofs.looked.Goals as goal

pub returns-then-instance-number : goal.returns-then-instance-number
returns-then-instance-number c = finds-short _ c.at.ensures c.cells_of-number.ensures (omega arith)

pub returns-then-n-start : goal.returns-then-n-start
returns-then-n-start c = finds-late _ c.at-then-n-start.ensures c.cells_of-number.ensures (omega arith) (omega arith)

pub returns : goal.returns
returns c =
    finds-told
    (record {
      number = _;
      all = _;
      planned = c.cells_of-number.ensures;
      cells-are = c.first.ensures;
      room = omega arith;
      from = omega arith;
      to = c.end_of-end.ensures;
    })
    c.told.ensures
