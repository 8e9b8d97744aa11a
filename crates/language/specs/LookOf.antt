-- `look_of`: a look at a text. "Order: 11, 1, 2 over the whole text, then frames in turn, then 3 for no goal, 10, 12, 13". Assumes nothing:
-- these are definitions, and they compute.
use Rattle.std.specs.Prelude.{cond, List, ℕ, ltb, ℤ, length}
use Rattle.meaning.specs.Look.{Answer, After, work_size}
use Rattle.meaning.specs.Decided.{refusal, look}
use Rattle.language.specs.Check.{Outcome}
use Rattle.language.specs.FileOf.{file_of}

-- "A refusal returns its number and a line .. no buffer changes"
abbrev pub look_at : Outcome → ℕ → ℕ → List ℤ → List ℤ → After
look_at (Outcome.refused n l) start count work inst = After.after (Answer.refused n l) work inst
look_at (Outcome.accepted F) start count work inst = look F start count work inst

unfoldable pub look_of : List ℕ → ℕ → ℕ → List ℤ → List ℤ → After
look_of text start count work inst = cond (ltb (length work) work_size) (refusal 11 work inst) (look_at (file_of text) start count work inst)
