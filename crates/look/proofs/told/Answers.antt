-- `look::told` meets its contract. Assumes nothing.
use mathlib.Core.Path.{refl}
use Rattle.look.proofs.told.Goals as goal

pub returns : goal.returns
returns c = record { found = c.first.result; left = _; searched = c.first.ensures; cleared = c.clear-2.ensures; tells = rw c.in-Some.is (refl, c.show.ensures) }
