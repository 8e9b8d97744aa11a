-- `cases::validity::Key::agrees` meets its contract. Assumes nothing.
use Prim.Native.Nat.{◌+◌}
use Rattle.cases.specs.Validity.{pair_agrees}
use Rattle.cases.proofs.ForeignLaws.{LeftFrom}
use Rattle.cases.proofs.validity.Key.agrees.Given as goal

abbrev pub invariant-loop-p : goal.invariant-loop-p
invariant-loop-p l =
    let key = l.key in
    LeftFrom l.frame (pair_agrees l.frame l.work key.child l.fn.i key.parent l.fn.j) (λ at. at + 2) key.pairs key.count l.next l._p
