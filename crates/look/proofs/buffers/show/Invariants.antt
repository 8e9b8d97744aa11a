-- `look::buffers::show` meets its contract. Assumes nothing.
use lib.ListN.{length}
use Rattle.look.proofs.BufferLaws.{Showing}
use Rattle.look.proofs.buffers.show.Given as goal

abbrev pub invariant-loop-j : goal.invariant-loop-j
invariant-loop-j l = Showing l.cells (length l.cells) l.work l.fn.instance l.instance l.j
