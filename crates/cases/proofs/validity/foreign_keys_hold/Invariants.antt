-- `cases::validity::foreign_keys_hold` meets its contract. Assumes nothing.
use Prim.Native.Nat.{◌+◌}
use lib.ListN.{length}
use Rattle.catalog.specs.Frames.{frame_at}
use Rattle.cases.specs.Validity.{foreign_key_in}
use Rattle.cases.proofs.ForeignLaws.{LeftFrom}
use Rattle.cases.proofs.validity.foreign_keys_hold.Given as goal

abbrev pub invariant-loop-k : goal.invariant-loop-k
invariant-loop-k l =
    LeftFrom l.bytes (λ n. foreign_key_in (frame_at l.bytes n) l.counts l.work) (λ n. n + 1 + length (frame_at l.bytes n)) l.fn.at l.fn.keys l.next l._k
