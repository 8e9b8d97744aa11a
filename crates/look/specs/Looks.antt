-- The answers of a look, and what the functions of this crate give. Assumes nothing: these are definitions.
use Rattle.std.specs.Prelude.{◌≡◌, Result, Ok, Err, cond, List, [], ◌∷◌, ℕ, ◌≤◌, ◌<◌, eqb, ℤ, pos, length, get_or, Option, Some, None}
use Rattle.text.specs.Refusals.{number_of as reason_number, numbers_of}
use Rattle.text.specs.declared.refusal.Refusal.{Refusal}
use Rattle.meaning.specs.Syntax.{File}
use Rattle.meaning.specs.Look.{Answer, number_of, values_of, After, answer_in, zeros, work_size}
use Rattle.meaning.specs.Decided.{refusal, look}
use Rattle.language.specs.LookOf.{look_of}
use Rattle.catalog.specs.Relations.{width_at, bound_at}
use Rattle.catalog.specs.FileIn.{PlanOf}
use Rattle.catalog.specs.declared.plan.Plan.{Plan}
use Rattle.look.specs.Cells.{all_cells}
use Rattle.look.specs.Scans.{Search, Searched}
use Rattle.look.specs.Buffers.{Shows}
use Rattle.look.specs.declared.Answer.{Answer as Answered}
use Rattle.look.specs.declared.Answer.TheVariants.{Case, NoCase, Spent}

-- the document's answer, by the number and the line that each refusal says
abbrev pub answer_by : {E : Type 0} → (E → ℕ × ℕ) → Result Answered E → Answer
answer_by says (Ok (Case k)) = Answer.case k
answer_by says (Ok NoCase) = Answer.no_case
answer_by says (Ok (Spent next)) = Answer.spent next
answer_by says (Err e) = Answer.refused (says e).0 (says e).1

abbrev pub answer_of : Result Answered Refusal → Answer
answer_of r = answer_by numbers_of r

-- "For each answer that is an enum, a definition gives this paper's number and values for every case of that enum": the frames 80 and k, 82, and
-- 8f with number and line. "spent" is no frame: its number is 0, and its value next
abbrev pub number_told : Result Answered Refusal → ℕ
number_told (Ok (Case k)) = 0x80
number_told (Ok NoCase) = 0x82
number_told (Ok (Spent next)) = 0
number_told (Err r) = 0x8f

abbrev pub values_told : Result Answered Refusal → List ℕ
values_told (Ok (Case k)) = k ∷ []
values_told (Ok NoCase) = []
values_told (Ok (Spent next)) = next ∷ []
values_told (Err r) = reason_number r.reason ∷ r.line ∷ []

-- ---- what the code gives

-- a look at a text: the answer and both buffers are those of the definition, and so are the answer's number and values
pub record LooksText (text : List ℕ) (start count : ℕ) (work inst : List ℤ) (r : Result Answered Refusal) (work' inst' : List ℤ) : Type 0 where
  pub after : After.after (answer_of r) work' inst' ≡ look_of text start count work inst
  pub number : number_told r ≡ number_of (answer_in (look_of text start count work inst))
  pub values : values_told r ≡ values_of (answer_in (look_of text start count work inst))

pub record Concludes (end n : ℕ) (r : Answered) : Type 0 where
  pub concludes : answer_of (Ok r) ≡ cond (eqb end n) Answer.no_case (Answer.spent end)

-- what a search that has come to `found` tells: of a case its number, and its cells at the front of the instance buffer; else how far it came
abbrev pub TellsOf : Option ℕ → Search → ℕ → List ℤ → List ℤ → Answered → List ℤ → Type 0
TellsOf (Some k) s n left inst r inst' = (r ≡ Case k) × Shows s.cells (length s.cells) left inst inst'
TellsOf None s n left inst r inst' = Concludes s.end n r × (inst' ≡ inst)

pub record Tells (s : Search) (n : ℕ) (work inst : List ℤ) (r : Answered) (work' inst' : List ℤ) : Type 0 where
  pub found : Option ℕ
  -- the work area then
  pub left : List ℤ
  pub searched : Searched s work found left
  pub cleared : work' ≡ zeros left
  pub tells : TellsOf found s n left inst r inst'

-- as many cells as the relations of a plan say
abbrev pub cells_by : Plan → ℕ
cells_by p = length (all_cells (bound_at p.relations) (width_at p.relations) p.outline.tables)

-- what a look at any plan leaves: a refusal changes nothing, else the work area is all zero; a case changes the instance buffer at most in as
-- many numbers as there are cells
abbrev pub Leaves : Answer → ℕ → List ℤ → List ℤ → List ℤ → List ℤ → Type 0
Leaves (Answer.refused n line) cells work inst work' inst' = (work' ≡ work) × (inst' ≡ inst)
Leaves (Answer.case k) cells work inst work' inst' = (work' ≡ zeros work) × ((j : ℕ) → cells ≤ j → get_or inst' j (pos 0) ≡ get_or inst j (pos 0))
Leaves Answer.no_case cells work inst work' inst' = (work' ≡ zeros work) × (inst' ≡ inst)
Leaves (Answer.spent next) cells work inst work' inst' = (work' ≡ zeros work) × (inst' ≡ inst)

-- a look at the plan of a file
pub record Looked (p : Plan) (start count : ℕ) (work inst : List ℤ) (r : Result Answered Refusal) (work' inst' : List ℤ) : Type 0 where
  pub leaves : Leaves (answer_of r) (cells_by p) work inst work' inst'
  pub finds : (F : File) → PlanOf F p → work_size ≤ length work → After.after (answer_of r) work' inst' ≡ look F start count work inst

-- and as a refusal's
abbrev pub cells_told : {E : Type 0} → Result Plan E → ℕ
cells_told (Ok p) = cells_by p
cells_told (Err r) = 0

-- what is made of a refusal says its number and its line
abbrev pub Says : {E : Type 0} → (Refusal → E → Type 0) → (E → ℕ × ℕ) → Type 0
Says made says = (r : Refusal) (e : _) → made r e → says e ≡ numbers_of r

-- a look at a plan: of the plan of a file, and of a refusal, whatever number and line it says
pub record LooksAt {E : Type 0} (says : E → ℕ × ℕ) (p : Result Plan E) (start count : ℕ) (work inst : List ℤ) (r : Result Answered E) (work' inst' : List ℤ) : Type 0 where
  pub work-size : length work' ≡ length work
  pub inst-size : length inst' ≡ length inst
  pub leaves : Leaves (answer_by says r) (cells_told p) work inst work' inst'
  pub short : length work < work_size → After.after (answer_by says r) work' inst' ≡ refusal 11 work inst
  pub refused : work_size ≤ length work → (x : E) → p ≡ Err x → After.after (answer_by says r) work' inst' ≡ After.after (answer_by says (Err x)) work inst
  pub accepted : (F : File) (q : Plan) → p ≡ Ok q → PlanOf F q → After.after (answer_by says r) work' inst' ≡ look F start count work inst
