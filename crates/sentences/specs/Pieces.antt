-- The pieces of a language as the code has them, one text with a line for each. Assumes nothing: these are definitions.
use Rattle.std.specs.Prelude.{List, ◌∷◌, ◌++◌, ℕ, zero, suc}
use Rattle.sentences.specs.Words.{Language}
use Rattle.sentences.specs.SheetOf.{past_line}

-- the words for a line, the close, and both lists of sentences
abbrev pub pieces : Language → List (List ℕ)
pieces w = w.line ∷ w.colon ∷ w.close ∷ (w.alone ++ w.there)

-- a text without its first k lines
unfoldable pub past_lines : ℕ → List ℕ → List ℕ
past_lines zero text = text
past_lines (suc k) text = past_lines k (past_line text)
