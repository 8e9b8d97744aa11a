-- Demand 3: what one look says, from any start; one statement about every list of looks at one accepted file; and what looks say together
-- that cover all candidates. Assumes nothing.
use mathlib.Core.Path.{◌≡◌}
use mathlib.Core.Bool.{true}
use Rattle.meaning.specs.Bounds.{well_formed}
use Rattle.meaning.specs.Candidates.{Numbered, SixteenBits}
use Rattle.meaning.specs.Decided.{look}
use Rattle.meaning.specs.Looks.{Look, EveryLook, EveryList, EveryCover}
use Rattle.meaning.specs.Syntax.{File}
use Rattle.meaning.proofs.Demand2.{cases}
use Rattle.meaning.proofs.ListOfLooks.{lists}
use Rattle.meaning.proofs.Numbering.{numbered}
use Rattle.meaning.proofs.OneLook.{look-says as look-says-by}
use Rattle.meaning.proofs.Stretches.{together}
use Rattle.meaning.proofs.WellFormed.{rules}

module _ (F : File) (w : well_formed F ≡ true) where
  -- "An accepted look, in a list or alone, from any start, gives exactly what "A look" says"
  pub look-says : SixteenBits F → EveryLook F (look F)
  look-says small = look-says-by F (rules F w).columns small (cases F w)

  -- of any look that says this: the list has ended in "case k" exactly when .., in "no case" exactly when .., else the next start is the sum
  -- of the counts
  pub demand-3 : (look : Look) → EveryLook F look → EveryList F look
  demand-3 look says = lists F look says (rules F w).columns

  -- looks from any starts that together cover all candidates give the first case, or that no database is one
  pub stretches : (look : Look) → EveryLook F look → EveryCover F look
  stretches look says = together F look says (rules F w).columns

  -- "every database with the file's row counts and value ranges is the database of exactly one k below N"
  pub every-database : Numbered F
  every-database = numbered F (rules F w).columns
