-- `look::scan::Search::scan` meets its contract. Assumes nothing.
use native.Mathlib.Omega.{arith}
use Rattle.look.proofs.ScanLaws.{scanned-none, scanned-more, scanned-found, scanned-all}
use Rattle.look.proofs.scan.Search.scan.Goals as goal

pub loop-k-init : goal.loop-k-init
loop-k-init c = scanned-none

pub returns-then-is_case : goal.returns-then-is_case
returns-then-is_case c = scanned-found c.loop-k.invariant c.is_case.ensures (omega arith) c.loop-k-test.true c.if-is_case.true

pub loop-k-preserved : goal.loop-k-preserved
loop-k-preserved c =
    scanned-more c.loop-k.invariant c.is_case.ensures c.if-is_case.false (rw c.places-places.ensures at c.move_to.ensures)

pub returns : goal.returns
returns c = scanned-all c.loop-k.invariant (omega arith)
