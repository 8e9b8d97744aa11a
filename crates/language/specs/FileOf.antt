-- `file_of`: the one refusal that document 01 fixes, number and line, or the file that the text means. "Order: .. 1, 2 over the whole text,
-- then frames in turn, then 3 for no goal, 10." Assumes nothing: these are definitions, and they compute.
use Rattle.std.specs.Prelude.{List, ℕ}
use Rattle.text.specs.Text.{Lines, frames_of, text_of}
use Rattle.meaning.specs.Syntax.{File}
use Rattle.language.specs.Check.{Outcome, check_all}
use Rattle.language.specs.Written.{file_frames}

abbrev pub outcome_of : Lines → Outcome
outcome_of (Lines.frames fs) = check_all fs
outcome_of (Lines.refused n k) = Outcome.refused n k

unfoldable pub file_of : List ℕ → Outcome
file_of text = outcome_of (frames_of text)

-- the text of a file
abbrev pub file_text : File → List ℕ
file_text F = text_of (file_frames F)
