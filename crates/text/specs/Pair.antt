-- The byte that two digits make, at the front of a text. Assumes nothing: these are definitions.
use Rattle.std.specs.Prelude.{cond, List, [], ◌∷◌, ℕ, ◌+◌, ◌*◌, ltb, Option, Some, None}
use Rattle.text.specs.Text.{hex_value}

-- the byte, or the number of the refusal
pub data PairRead : Type 0 where
  byte : ℕ → PairRead
  refused : ℕ → PairRead

-- "2 (line), digits, pairs .. wrong"
unfoldable pub pair_of : List ℕ → PairRead
pair_of [] = PairRead.refused 2
pair_of (a ∷ []) = PairRead.refused 2
pair_of (a ∷ b ∷ rest) =
    cond (ltb (hex_value a) 16) (cond (ltb (hex_value b) 16) (PairRead.byte (16 * hex_value a + hex_value b)) (PairRead.refused 2)) (PairRead.refused 2)

-- what each answer of the code says
abbrev pub pair_told : Option ℕ → PairRead
pair_told (Some b) = PairRead.byte b
pair_told None = PairRead.refused 2
