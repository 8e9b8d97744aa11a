-- Answers as plain numbers. Assumes nothing: these are definitions, and they compute.
use Rattle.std.specs.Prelude.{◌≡◌, cond, List, [], ◌∷◌, ◌↔◌, ℕ, ◌+◌, ◌*◌, ◌/◌, ◌%◌, ◌^◌, ◌≤◌, eqb, ℤ}
use Rattle.meaning.specs.Syntax.{File}
use Rattle.meaning.specs.Look.{Answer, answer_in, work_in, inst_in, number_of, values_of}
use Rattle.language.specs.Check.{Outcome}
use Rattle.language.specs.LookOf.{look_of}

-- ---- a check

-- "A refusal returns its number and a line": the line in the lower 16 bits, and 0 for a text that is accepted
abbrev pub check_answer : Outcome → ℕ
check_answer (Outcome.refused n line) = n * 65536 + line
check_answer (Outcome.accepted F) = 0

-- what a caller reads from that number: 0 for an accepted text alone, and else the refusal, one of 1 to 10
pub record Readable (o : Outcome) (r : ℕ) : Type 0 where
  pub accepted : (r ≡ 0) ↔ ((F : File) × (o ≡ Outcome.accepted F))
  pub refused : (n line : ℕ) → (o ≡ Outcome.refused n line) ↔ ((1 ≤ n) × (r / 65536 ≡ n) × (r % 65536 ≡ line))
  pub numbers : r / 65536 ≤ 10

-- ---- a look

-- so many different payloads stand in 56 bits
abbrev pub payload_count : ℕ
payload_count = 2 ^ 56

-- an answer's values as one number: 0 for none, and of a refusal's number and line the line in the lower 16 bits
abbrev pub payload : List ℕ → ℕ
payload [] = 0
payload (x ∷ []) = x
payload (n ∷ line ∷ more) = n * 65536 + line

-- "For each answer that is an enum, a definition gives this paper's number and values for every case of that enum": the number in the
-- upper 8 of 64 bits, the values in the 56 below
unfoldable pub look_answer : Answer → ℕ
look_answer a = number_of a * payload_count + payload (values_of a) % payload_count

-- the answer that a caller reads from number and payload
abbrev pub answer_at : ℕ → ℕ → Answer
answer_at number value =
    cond (eqb number 0x80) (Answer.case value)
    (cond (eqb number 0x82) Answer.no_case
    (cond (eqb number 0) (Answer.spent value)
    (Answer.refused (value / 65536) (value % 65536))))

abbrev pub answer_back : ℕ → Answer
answer_back r = answer_at (r / payload_count) (r % payload_count)

-- the answer and both buffers are those of the look; "A refusal returns its number and a line ..; no buffer changes"
pub record Looks (text : List ℕ) (start count : ℕ) (work inst : List ℤ) (r : ℕ) (work' inst' : List ℤ) : Type 0 where
  pub answer : r ≡ look_answer (answer_in (look_of text start count work inst))
  pub work-is : work' ≡ work_in (look_of text start count work inst)
  pub instance-is : inst' ≡ inst_in (look_of text start count work inst)
  pub refused-unchanged : r / payload_count ≡ 0x8f → (work' ≡ work) × (inst' ≡ inst)
