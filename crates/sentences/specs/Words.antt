-- "Sentences are built from fixed pieces and the line's figures": the pieces of a language, as bytes in UTF-8. Assumes nothing: these are
-- definitions, and they compute.
use Rattle.std.specs.Prelude.{cond, List, [], ◌∷◌, ◌++◌, map, ℕ, ◌+◌, ◌/◌, ◌%◌, ltb}
use Prim.Native.Char.{code}
use Prim.Native.String.{String, [] as no_more, ◌∷◌ as ◌and_then◌}

-- ---- characters as bytes

-- UTF-8 of a character below 65,536: one byte, two or three
abbrev pub utf8_of : ℕ → List ℕ
utf8_of c =
    cond (ltb c 0x80) (c ∷ [])
    (cond (ltb c 0x800) ((0xc0 + c / 64) ∷ (0x80 + c % 64) ∷ [])
    ((0xe0 + c / 4096) ∷ (0x80 + c / 64 % 64) ∷ (0x80 + c % 64) ∷ []))

abbrev pub utf8 : String → List ℕ
utf8 no_more = []
utf8 (c and_then s) = utf8_of (code c) ++ utf8 s

abbrev pub texts : List String → List (List ℕ)
texts = map utf8

-- ---- a language

pub record Language : Type 0 where
  -- before the figures of the line, and behind them
  pub line : List ℕ
  pub colon : List ℕ
  -- where no line is named. First what stands before the number of a refusal that has no sentence of its own; then the sentence of
  -- refusal 1, of 2, and so on
  pub alone : List (List ℕ)
  -- the same behind a line that is named
  pub there : List (List ℕ)
  -- behind the number of a refusal that has no sentence of its own
  pub close : List ℕ
