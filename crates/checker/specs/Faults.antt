-- Faults as numbers: 0 is no fault, and a frame's fault is the first of a list in the document's order. Assumes nothing: these are
-- definitions.
use Rattle.std.specs.Prelude.{Bool, cond, ◌&&◌, List, ℕ, zero, suc, eqb, ltb, leb, drop, Result, Ok, Err}
use Rattle.text.specs.Refusals.{number_of}
use Rattle.text.specs.declared.refusal.Reason.{Reason}
use Rattle.language.specs.Reading.{Read, Reader}

abbrev pub fault_of : {A : Type 0} → Read A → ℕ
fault_of (Read.ok a rest) = 0
fault_of (Read.refused n) = n

-- the fault of a reader at a place of a frame
unfoldable pub fault_at : {A : Type 0} → List ℕ → ℕ → Reader A → ℕ
fault_at frame at r = fault_of (r (drop at frame))

-- the first fault of two
unfoldable pub first : ℕ → ℕ → ℕ
first m n = cond (eqb m 0) n m

-- what an answer of the code says: no fault, or the number of what it refuses by
abbrev pub fault_by : {A E : Type 0} → (E → ℕ) → Result A E → ℕ
fault_by number (Ok x) = 0
fault_by number (Err e) = number e

-- and where that is a reason
abbrev pub fault_told : {A : Type 0} → Result A Reason → ℕ
fault_told r = fault_by number_of r

-- the first of n faults, in their order
unfoldable pub first_among : (ℕ → ℕ) → ℕ → ℕ
first_among fault zero = 0
first_among fault (suc n) = first (first_among fault n) (fault n)

-- the tests of a byte
abbrev pub under : ℕ → ℕ → Bool
under n b = ltb b n

abbrev pub within : ℕ → ℕ → ℕ → Bool
within lo hi b = leb lo b && leb b hi

abbrev pub from_under : ℕ → ℕ → ℕ → Bool
from_under lo n b = leb lo b && ltb b n
