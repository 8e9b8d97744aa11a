-- "Translators want each 8f frame as a sentence in English and in French: which rule was broken, at which line. .. Within one language,
-- the sentence alone must give back the pair of number and line, for every refusal number, later ones too, and every line from 0 to
-- 65,535." Sentences are lists of bytes. Assumes nothing: these are definitions, and they compute.
use Rattle.std.specs.Prelude.{Bool, true, false, ◌&&◌, cond, List, [], ◌∷◌, ◌++◌, ℕ, zero, suc, ◌+◌, ◌*◌, ◌-◌, ◌/◌, ◌%◌, ltb, eqb, length, get_or, drop}
use Rattle.sentences.specs.Words.{Language}

-- ---- figures

-- a number below 10^k in decimal figures, with no 0 before it
unfoldable pub figures_of : ℕ → ℕ → List ℕ
figures_of zero n = []
figures_of (suc k) n = cond (ltb n 10) ((n + 48) ∷ []) (figures_of k (n / 10) ++ (n % 10 + 48) ∷ [])

-- five are enough for a line
abbrev pub figures : ℕ → List ℕ
figures = figures_of 5

-- ---- the sentence

-- the sentence of a number in a list of them; a number that has none stands behind the list's first entry
abbrev pub said : Language → List (List ℕ) → ℕ → List ℕ
said w ts n = cond (ltb 0 n && ltb n (length ts)) (get_or ts n []) (get_or ts 0 [] ++ figures n ++ w.close)

-- "line 0 where none is said": then no line is named
unfoldable pub sentence : Language → ℕ → ℕ → List ℕ
sentence w n l = cond (eqb l 0) (said w w.alone n) (w.line ++ figures l ++ w.colon ++ said w w.there n)

-- ---- and back

-- the value of a figure, 10 for any other byte
abbrev pub figure_value : ℕ → ℕ
figure_value c = cond (ltb c 48) 10 (cond (ltb c 58) (c - 48) 10)

-- the number in the figures at the front, behind those already read
unfoldable pub value_from : ℕ → List ℕ → ℕ
value_from n [] = n
value_from n (c ∷ cs) = cond (ltb (figure_value c) 10) (value_from (n * 10 + figure_value c) cs) n

-- what stands behind them
unfoldable pub past_figures : List ℕ → List ℕ
past_figures [] = []
past_figures (c ∷ cs) = cond (ltb (figure_value c) 10) (past_figures cs) (c ∷ cs)

-- whether p stands at the front of s
unfoldable pub begins : List ℕ → List ℕ → Bool
begins [] s = true
begins (a ∷ p) [] = false
begins (a ∷ p) (b ∷ s) = eqb a b && begins p s

-- the place of the first of these that stands at the front of s
unfoldable pub place_of : List (List ℕ) → List ℕ → ℕ
place_of [] s = 0
place_of (t ∷ ts) s = cond (begins t s) 0 (suc (place_of ts s))

-- the number of a sentence: the place of its piece, or the figures behind the first piece
abbrev pub number_back : List (List ℕ) → List ℕ → ℕ
number_back ts s = cond (eqb (place_of ts s) 0) (value_from 0 (drop (length (get_or ts 0 [])) s)) (place_of ts s)

-- behind the word for a line
abbrev pub line_back : Language → List ℕ → ℕ × ℕ
line_back w s = (number_back w.there (drop (length w.colon) (past_figures s)), value_from 0 s)

-- number and line of a sentence
unfoldable pub back : Language → List ℕ → ℕ × ℕ
back w s = cond (begins w.line s) (line_back w (drop (length w.line) s)) (number_back w.alone s, 0)
