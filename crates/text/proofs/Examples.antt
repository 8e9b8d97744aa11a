-- Worked examples, by computation: texts and what they give. Assumes nothing.
use mathlib.Core.Path.{◌≡◌, refl}
use mathlib.Core.List.{[], ◌∷◌}
use Rattle.text.specs.Text.{frames, refused, hex_value, step, read_on, lines_of, frames_of, hex_digit, hex, line, text_of}

-- 0a and ff
two-lines : frames_of (48 ∷ 97 ∷ 10 ∷ 102 ∷ 102 ∷ 10 ∷ []) ≡ frames ((10 ∷ []) ∷ (255 ∷ []) ∷ [])
unfolding frames_of lines_of read_on step hex_value
two-lines = refl

-- "070201", the goal frame of the second marked example, as its line
goal-line : text_of ((7 ∷ 2 ∷ 1 ∷ []) ∷ []) ≡ 48 ∷ 55 ∷ 48 ∷ 50 ∷ 48 ∷ 49 ∷ 10 ∷ []
unfolding text_of line hex hex_digit
goal-line = refl

empty-text : frames_of [] ≡ refused 1 0
unfolding frames_of
empty-text = refl

-- an empty second line
empty-line : frames_of (48 ∷ 97 ∷ 10 ∷ 10 ∷ []) ≡ refused 2 2
unfolding frames_of lines_of read_on step hex_value
empty-line = refl

-- half a byte; no LF at the end; a capital digit
half-byte : frames_of (48 ∷ 10 ∷ []) ≡ refused 2 1
unfolding frames_of lines_of read_on step hex_value
half-byte = refl

no-lf : frames_of (48 ∷ 48 ∷ []) ≡ refused 2 1
unfolding frames_of lines_of read_on step hex_value
no-lf = refl

capital : frames_of (48 ∷ 65 ∷ 10 ∷ []) ≡ refused 2 1
unfolding frames_of lines_of read_on step hex_value
capital = refl
