-- A worked example, by computation: the input of "The program" is the text of the file that it is accepted as. Assumes nothing.
use mathlib.Core.Path.{◌≡◌, refl}
use mathlib.Core.List.{List, [], ◌∷◌}
use Prim.Native.Nat.{ℕ}
use Rattle.text.specs.Text.{frames_of, lines_of, read_on, step, hex_value, text_of, line, hex, hex_digit}
use Rattle.language.specs.FileOf.{file_of, file_text}
use Rattle.value.specs.Integer.{signed_of, bits_of, min_z, max_z}
use Rattle.value.specs.Value.{size}
use Rattle.language.specs.Prefix.{encode_e, encode_c}
use Rattle.language.specs.Reading.{deep_e, deep_c, read_e, read_c}
use Rattle.meaning.specs.Candidates.{candidates}
use Rattle.language.specs.Check.{Outcome, check_frame, reach}
use Rattle.language.specs.Written.{table_bytes, view_bytes, goal_bytes, file_frames}

abbrev program : List ℕ
program =
    text_of (
    (0x01 ∷ 0x01 ∷ 0x01 ∷ 0x00 ∷ 0x00 ∷ 0x00 ∷ 0x00 ∷ 0x0c ∷ [])
    ∷ (0x03 ∷ 0x01 ∷ 0x00 ∷ 0x01 ∷ 0x12 ∷ 0x00 ∷ 0x00 ∷ 0x08 ∷ 0x01 ∷ 0x00 ∷ 0x00 ∷ 0x01 ∷ 0x00 ∷ 0x00 ∷ [])
    ∷ (0x03 ∷ 0x01 ∷ 0x01 ∷ 0x01 ∷ 0x12 ∷ 0x00 ∷ 0x00 ∷ 0x05 ∷ 0x01 ∷ 0x00 ∷ 0x00 ∷ 0x01 ∷ 0x00 ∷ 0x00 ∷ [])
    ∷ (0x07 ∷ 0x02 ∷ 0x00 ∷ [])
    ∷ []
    )

-- the text of the file of an accepted text
abbrev rewritten : Outcome → List ℕ
rewritten (Outcome.refused n l) = []
rewritten (Outcome.accepted F) = file_text F

program-written : rewritten (file_of program) ≡ program
unfolding file_of frames_of lines_of read_on step hex_value text_of line hex hex_digit reach check_frame read_e read_c deep_e deep_c candidates size signed_of min_z max_z
    bits_of table_bytes view_bytes goal_bytes file_frames encode_e encode_c
program-written = refl
