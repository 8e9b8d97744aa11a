-- `look::scan::Search::first` meets its contract. Assumes nothing.
use native.Mathlib.Omega.{arith}
use Rattle.look.proofs.ScanLaws.{searches}
use Rattle.look.proofs.scan.Search.first.Goals as goal

pub returns : goal.returns
returns c = searches c.count_tables.ensures
    (rw c.places.ensures at c.put_candidate.ensures)
    c.needs_of-needs.ensures c.scan.ensures (omega arith)
