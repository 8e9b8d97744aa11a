-- What the functions on text answer and leave. Assumes nothing: these are definitions.
use Rattle.std.specs.Prelude.{◌≡◌, Bool, cond, List, [], ◌∷◌, ◌++◌, ℕ, ◌+◌, ◌≤◌, leb, length, get_or, take, drop, replicate, Result, Ok, Err}
use Rattle.text.specs.Text.{Lines, frames, refused, line}
use Rattle.text.specs.Refusals.{number_of}
use Rattle.text.specs.declared.Frames.{Frames}
use Rattle.text.specs.declared.refusal.Refusal.{Refusal}

-- ---- decoding

-- each frame behind its length
unfoldable pub pack : List (List ℕ) → List ℕ
pack [] = []
pack (f ∷ fs) = length f ∷ f ++ pack fs

-- no frames
unfoldable pub blank_frames : Frames
blank_frames = record { bytes = replicate 5462 0; used = 0 }

-- the frames fs, decoded; every other byte is 0
pub record Holds (fs : List (List ℕ)) (r : Frames) : Type 0 where
  pub used : r.used ≡ length (pack fs)
  pub packed : take r.used r.bytes ≡ pack fs
  pub rest : (i : ℕ) → r.used ≤ i → get_or r.bytes i 0 ≡ 0
  pub wide : length r.bytes ≡ 5462

-- "A refusal returns its number and a line"
pub record Refuses (n k : ℕ) (r : Refusal) : Type 0 where
  pub number : number_of r.reason ≡ n
  pub line : r.line ≡ k

abbrev pub Decoded : Lines → Result Frames Refusal → Type 0
Decoded (frames fs) (Ok r) = Holds fs r
Decoded (frames fs) (Err r) = ⊥
Decoded (refused n k) (Ok r) = ⊥
Decoded (refused n k) (Err r) = Refuses n k r

-- ---- writing

-- whether the line of a frame has room at a place
abbrev pub fits : List ℕ → ℕ → List ℕ → Bool
fits frame at out = leb (at + length (line frame)) (length out)

-- the line put there; nothing without room
unfoldable pub written : List ℕ → ℕ → List ℕ → List ℕ
written frame at out = cond (fits frame at out) (take at out ++ line frame ++ drop (at + length (line frame)) out) out

-- the place behind it
unfoldable pub behind : List ℕ → ℕ → List ℕ → ℕ
behind frame at out = cond (fits frame at out) (at + length (line frame)) at

-- what writing a frame answers, and what it leaves
pub record Written (frame : List ℕ) (at : ℕ) (out : List ℕ) (r : ℕ) (after : List ℕ) : Type 0 where
  pub next : r ≡ behind frame at out
  pub left : after ≡ written frame at out
