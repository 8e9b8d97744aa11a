-- Outputs read back, by computation: two tables, a table of two rows with numbers below zero, one without rows, a refusal, no case, and
-- texts that are no output. Assumes nothing.
use mathlib.Core.Path.{◌≡◌, refl}
use mathlib.Core.List.{List, [], ◌∷◌}
use Prim.Native.Nat.{ℕ}
use lib.IntN.{ℤ, pos, negsuc}
use Rattle.value.specs.Integer.{signed_of}
use Rattle.value.specs.Value.{Value}
use Rattle.text.specs.Text.{text_of, line, hex, hex_digit, hex_value, step, read_on, lines_of, frames_of}
use Rattle.language.specs.Told.{Shown, Told, values_in, table_in, told_by, read_back}

-- a row of two
abbrev two : ℤ → ℤ → List Value
two a b = Value.number a ∷ Value.number b ∷ []

abbrev table : ℕ → List (List Value) → Shown
table t rs = record { relation = t; rows = rs }

-- the output of a rule for portions of a recipe: case 885
portions : read_back (text_of ((0x80 ∷ 0 ∷ 0 ∷ 3 ∷ 0x75 ∷ []) ∷ (0x81 ∷ 0 ∷ 1 ∷ 0 ∷ 1 ∷ 0 ∷ 5 ∷ []) ∷ (0x81 ∷ 1 ∷ 1 ∷ 0 ∷ 1 ∷ 0 ∷ 95 ∷ []) ∷ []))
    ≡ Told.case 885 (table 0 (two (pos 1) (pos 5) ∷ []) ∷ table 1 (two (pos 1) (pos 95) ∷ []) ∷ [])
unfolding read_back told_by table_in values_in signed_of frames_of lines_of read_on step hex_value text_of line hex hex_digit
portions = refl

-- two rows, and a table without rows
below-zero : told_by ((0x80 ∷ 1 ∷ 0 ∷ 0 ∷ 0 ∷ []) ∷ (0x81 ∷ 0 ∷ 2 ∷ 0 ∷ 1 ∷ 0xff ∷ 0xfe ∷ 0 ∷ 3 ∷ 0x80 ∷ 0 ∷ []) ∷ (0x81 ∷ 1 ∷ 0 ∷ []) ∷ [])
    ≡ Told.case 16777216 (table 0 (two (pos 1) (negsuc 1) ∷ two (pos 3) (negsuc 32767) ∷ []) ∷ table 1 [] ∷ [])
unfolding told_by table_in values_in signed_of
below-zero = refl

refused : told_by ((0x8f ∷ 9 ∷ 1 ∷ 2 ∷ []) ∷ []) ≡ Told.refused 9 258
unfolding told_by
refused = refl

none : told_by ((0x82 ∷ []) ∷ []) ≡ Told.none
unfolding told_by
none = refl

-- no text, and a line that is not closed
nothing : read_back [] ≡ Told.unreadable
unfolding read_back frames_of
nothing = refl

unclosed : read_back (56 ∷ 50 ∷ []) ≡ Told.unreadable
unfolding read_back frames_of lines_of read_on step hex_value
unclosed = refl
