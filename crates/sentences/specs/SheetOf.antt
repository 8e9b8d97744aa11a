-- "The output of the first program keeps its frames; a second reads the same input and prints both sentences, English first, each closed
-- by LF, or nothing where there is no 8f." Assumes nothing: these are definitions, and they compute.
use Rattle.std.specs.Prelude.{◌≡◌, cond, List, [], ◌∷◌, ◌++◌, ◌↔◌, ℕ, ◌<◌, eqb, ltb}
use Rattle.meaning.specs.Syntax.{File}
use Rattle.text.specs.Text.{text_of}
use Rattle.language.specs.Check.{Outcome}
use Rattle.language.specs.FileOf.{file_of}
use Rattle.language.specs.OutputOf.{refusal_frame, output_of}
use Rattle.language.specs.Told.{Told, read_back}
use Rattle.sentences.specs.Words.{Language}
use Rattle.sentences.specs.English.{english}
use Rattle.sentences.specs.French.{french}
use Rattle.sentences.specs.Sentence.{sentence, back}

-- ---- languages by number: 0 is English, 1 is French

abbrev pub language_of : ℕ → Language
language_of code = cond (eqb code 0) english french

-- the sentence in a language, nothing where there is no such language
unfoldable pub sentence_in : ℕ → ℕ → ℕ → List ℕ
sentence_in code n l = cond (ltb code 2) (sentence (language_of code) n l) []

-- ---- the sheet

-- "each closed by LF"
unfoldable pub in_lines : List (List ℕ) → List ℕ
in_lines [] = []
in_lines (p ∷ ps) = p ++ 10 ∷ in_lines ps

-- "both sentences, English first"
unfoldable pub both_sentences : ℕ → ℕ → List ℕ
both_sentences n l = in_lines (sentence english n l ∷ sentence french n l ∷ [])

-- "or nothing where there is no 8f"
abbrev pub sheet_by : Told → List ℕ
sheet_by (Told.refused n l) = both_sentences n l
sheet_by Told.none = []
sheet_by (Told.case k tables) = []
sheet_by Told.unreadable = []

-- what the second program prints: by the output of the first, as a reader of its frames has it
unfoldable pub sheet_of : List ℕ → List ℕ
sheet_of text = sheet_by (read_back (output_of text))

-- the first line of a text, without its LF, and what stands behind that
unfoldable pub first_line : List ℕ → List ℕ
first_line [] = []
first_line (c ∷ cs) = cond (eqb c 10) [] (c ∷ first_line cs)

unfoldable pub past_line : List ℕ → List ℕ
past_line [] = []
past_line (c ∷ cs) = cond (eqb c 10) cs (past_line cs)

-- what the sheet says of a text
pub record SheetSays (text : List ℕ) : Type 0 where
  -- nothing, exactly where the text is accepted
  pub empty : (sheet_of text ≡ []) ↔ ((F : File) × (file_of text ≡ Outcome.accepted F))
  -- of an 8f that the first program prints, both sentences and no more: each line, alone, gives number and line back
  pub printed : {n l : ℕ} → n < 256 → l < 65536 → output_of text ≡ text_of (refusal_frame n l ∷ [])
      → (sheet_of text ≡ both_sentences n l)
      × (back english (first_line (sheet_of text)) ≡ (n, l))
      × (back french (first_line (past_line (sheet_of text))) ≡ (n, l))
  -- and where the sheet has a line, the first program prints 8f with the number and the line that this gives back, and nothing else
  pub gives_back : (sheet_of text ≡ [] → ⊥) → let (n, l) = back english (first_line (sheet_of text)) in output_of text ≡ text_of (refusal_frame n l ∷ [])
