-- `look::scan::Search::scan` meets its contract. Assumes nothing.
use Rattle.cases.specs.Judgement.{memory_from}
use Rattle.look.specs.Scans.{search_in}
use Rattle.look.proofs.ScanLaws.{Scanned}
use Rattle.look.proofs.scan.Search.scan.Given as goal

abbrev pub invariant-loop-k : goal.invariant-loop-k
invariant-loop-k l =
    Scanned (search_in l.self) l.needs (memory_from l.fn.counts l.fn.signs l.fn.work) l.k (memory_from l.counts l.signs l.work)
