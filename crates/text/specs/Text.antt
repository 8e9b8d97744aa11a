-- "Lines of hexadecimal, one frame a line: digits 0-9 and a-f, two a byte, each line closed by LF, 1 to 120 frame bytes a line. The
-- file has 1 to 8,192 bytes." Texts and frames are lists of bytes. Assumes nothing: these are definitions, and they compute.
use Rattle.std.specs.Prelude.{◌≡◌, cond, List, [], ◌∷◌, ◌++◌, ℕ, ◌+◌, ◌*◌, ◌-◌, ◌/◌, ◌%◌, ◌≤◌, ◌<◌, ltb, eqb, length}
use Rattle.value.specs.Bag.{All}

-- ---- from frames to text

-- the digit of a number below 16
unfoldable pub hex_digit : ℕ → ℕ
hex_digit d = cond (ltb d 10) (d + 48) (d + 87)

-- "two a byte"
unfoldable pub hex : List ℕ → List ℕ
hex [] = []
hex (b ∷ bs) = hex_digit (b / 16) ∷ hex_digit (b % 16) ∷ hex bs

-- "each line closed by LF"
unfoldable pub line : List ℕ → List ℕ
line frame = hex frame ++ 10 ∷ []

-- "one frame a line"
unfoldable pub text_of : List (List ℕ) → List ℕ
text_of [] = []
text_of (f ∷ fs) = line f ++ text_of fs

-- "1 to 120 frame bytes a line"
pub record Frame (f : List ℕ) : Type 0 where
  pub bytes : All (λ b. b < 256) f
  pub some : 1 ≤ length f
  pub few : length f ≤ 120

-- ---- from text to frames

-- the frames of a text, or its refusal: number and line
pub data Lines : Type 0 where
  frames : List (List ℕ) → Lines
  refused : ℕ → ℕ → Lines

-- the text of some frames, and then a rest that begins with no frame's line: line k is the first that is wrong
pub record FirstWrong (k : ℕ) (text : List ℕ) : Type 0 where
  pub before : List (List ℕ)
  pub rest : List ℕ
  pub text-is : text ≡ text_of before ++ rest
  pub well : All Frame before
  pub line-is : k ≡ length before + 1
  pub some : 1 ≤ length rest
  pub wrong : (f more : List ℕ) → Frame f → rest ≡ line f ++ more → ⊥

-- what a text gives; `frames_of` below gives this and nothing else (proofs/Complete)
pub data Gives (text : List ℕ) : Lines → Type 0 where
  accepted : {fs : List (List ℕ)} → text ≡ text_of fs → All Frame fs → 1 ≤ length fs → length text ≤ 8192 → Gives text (frames fs)
  -- "1, empty or over 8,192 bytes", "line 0 where none is said"
  empty : length text ≡ 0 → Gives text (refused 1 0)
  long : 8192 < length text → Gives text (refused 1 0)
  -- "2 (line), digits, pairs, length or LF wrong, the first such line"
  wrong-line : {k : ℕ} → FirstWrong k text → length text ≤ 8192 → Gives text (refused 2 k)

-- ---- the same, computed

-- "digits 0-9 and a-f": the value of a digit, 16 for any other character
unfoldable pub hex_value : ℕ → ℕ
hex_value c = cond (ltb c 48) 16 (cond (ltb c 58) (c - 48) (cond (ltb c 97) 16 (cond (ltb c 103) (c - 87) 16)))

-- how far reading has come: the frames of the lines before and the bytes of this line; the same and a first digit; a line that is wrong
pub data State : Type 0 where
  between : List (List ℕ) → List ℕ → State
  half : List (List ℕ) → List ℕ → ℕ → State
  wrong : ℕ → State

-- "a line from 1": the number of the line behind those of `done`
abbrev pub line_after : List (List ℕ) → ℕ
line_after done = length done + 1

-- a LF: a line has at least one byte
abbrev pub closed : List (List ℕ) → List ℕ → State
closed done [] = wrong (line_after done)
closed done (b ∷ bs) = between (done ++ (b ∷ bs) ∷ []) []

-- the first digit of a byte: a line has at most 120
abbrev pub opened : List (List ℕ) → List ℕ → ℕ → State
opened done frame d = cond (ltb d 16) (cond (ltb (length frame) 120) (half done frame d) (wrong (line_after done))) (wrong (line_after done))

unfoldable pub step : State → ℕ → State
step (between done frame) c = cond (eqb c 10) (closed done frame) (opened done frame (hex_value c))
step (half done frame d) c = cond (ltb (hex_value c) 16) (between done (frame ++ (16 * d + hex_value c) ∷ [])) (wrong (line_after done))
step (wrong k) c = wrong k

unfoldable pub read_on : State → List ℕ → State
read_on s [] = s
read_on s (c ∷ cs) = read_on (step s c) cs

-- the end of the text: only behind a LF is it well
abbrev pub ended : State → Lines
ended (between done []) = frames done
ended (between done (b ∷ bs)) = refused 2 (line_after done)
ended (half done frame d) = refused 2 (line_after done)
ended (wrong k) = refused 2 k

unfoldable pub lines_of : List ℕ → Lines
lines_of text = ended (read_on (between [] []) text)

unfoldable pub frames_of : List ℕ → Lines
frames_of text = cond (eqb (length text) 0) (refused 1 0) (cond (ltb 8192 (length text)) (refused 1 0) (lines_of text))
