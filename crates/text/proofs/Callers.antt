-- What a caller of the decoder learns from its answer. Assumes nothing.
use mathlib.Core.Path.{◌≡◌, refl, sym, ap, ap₂, ◌∙◌}
use mathlib.Core.List.{List}
use Prim.Native.Nat.{ℕ, ◌≤◌}
use native.Mathlib.Omega.{arith}
use lib.ListN.{length, take, length-take}
use Rattle.std.proofs.Common.{Ok, Err}
use Rattle.text.specs.Text.{Lines, frames, refused, frames_of}
use Rattle.text.specs.Answers.{Holds, Decoded}
use Rattle.text.specs.Refusals.{number_of}
use Rattle.text.specs.declared.Frames.{Frames}
use Rattle.text.specs.declared.refusal.Refusal.{Refusal}

-- the bytes in use are among those of the array
pub used-length : {fs : List (List ℕ)} {r : Frames} → Holds fs r → length (take r.used r.bytes) ≡ r.used
used-length h = ap length h.packed ∙ sym h.used

pub used-fits : {fs : List (List ℕ)} {r : Frames} → Holds fs r → r.used ≤ 5462
used-fits h = omega (arith, simp length-take at (used-length h), h.wide)

module _ (text : List ℕ) where
  -- Ok: the frames
  pub accepted : (r : Frames) → Decoded (frames_of text) (Ok r) → (fs : List (List ℕ)) × (frames_of text ≡ frames fs) × Holds fs r
  accepted r d = go (frames_of text) refl d
    where
      go : (l : Lines) → frames_of text ≡ l → Decoded l (Ok r) → (fs : List (List ℕ)) × (frames_of text ≡ frames fs) × Holds fs r
      go (frames fs) e h = (fs, e, h)
      go (refused n k) e h = absurd h

  -- Err: the refusal
  pub refused_as : (r : Refusal) → Decoded (frames_of text) (Err r) → frames_of text ≡ refused (number_of r.reason) r.line
  refused_as r d = go (frames_of text) refl d
    where
      go : (l : Lines) → frames_of text ≡ l → Decoded l (Err r) → frames_of text ≡ refused (number_of r.reason) r.line
      go (frames fs) e h = absurd h
      go (refused n k) e h = e ∙ sym (ap₂ refused h.number h.line)
