-- Parts of packed bytes, and frames in them. Assumes nothing.
use mathlib.Core.Path.{◌≡◌, refl, sym, ap, ap₂, ◌∙◌}
use mathlib.Core.Bool.{Bool, true, false}
use mathlib.Core.List.{List, ◌∷◌, ◌++◌}
use Prim.Native.Nat.{ℕ, ◌+◌, ◌-◌, ◌≤◌, ◌<◌, min}
use native.Mathlib.Omega.{arith}
use lib.Dec.{eqb}
use lib.ListN.{length, get_or, take, drop, length-drop, length-take, drop_of_length-le}
use lib.Seq.{take_all, take_at, take-nil, drop_at, drop-drop}
use borrow.Author.Tests.{lt-ltb, le-ltb}
use Rattle.value.proofs.Places.{byte-here}
use Rattle.meaning.proofs.Stacks.{by-lt}
use Rattle.text.specs.Answers.{pack}
use Rattle.catalog.specs.Frames.{frame_at, froms_in, names_in, parts_after, parts_in}
use Rattle.catalog.specs.declared.frames.Parts.{Parts}

-- a part whose start and end are kept within the bytes
pub part-is : (l : List ℕ) (at n from to : ℕ) → from ≡ min at (length l) → to ≡ min (from + n) (length l) → take (to - from) (drop from l) ≡ take n (drop at l)
part-is l at n from to f t = by-lt at (length l)
    (λ _ h. let e : from ≡ at = omega arith in
    by-lt (length l - at) n
    (λ _ k. let m : length (drop at l) ≤ n = rw (length-drop at l) (omega arith) in
    let m' : length (drop at l) ≤ to - from = rw (length-drop at l) (omega arith) in
    ap (λ i. take (to - from) (drop i l)) e ∙ take_all (to - from) (drop at l) m' ∙ sym (take_all n (drop at l) m))
    (λ _ k. let m : to - from ≡ n = omega arith in ap₂ (λ (i j : ℕ). take i (drop j l)) m e))
    (λ _ h. let e : from ≡ length l = omega arith in
    ap (λ i. take (to - from) (drop i l)) e ∙ ap (take (to - from)) (drop_of_length-le l {i = length l} (omega arith)) ∙ take-nil (to - from)
    ∙ sym (ap (take n) (drop_of_length-le l h) ∙ take-nil n))

-- the same where the place is kept within the bytes first
pub frame_is : (l : List ℕ) (at n before : ℕ) → n ≡ get_or l at 0 → before ≡ min at (length l) → take n (drop (before + 1) l) ≡ frame_at l at
unfolding frame_at
frame_is l at n before e b = by-lt at (length l)
    (λ _ h. let p : before ≡ at = omega arith in ap₂ (λ (i j : ℕ). take i (drop (j + 1) l)) e p)
    (λ _ h. ap₂ (λ (i : ℕ) (x : List ℕ). take i x) e (drop_of_length-le l {i = before + 1} (omega arith) ∙ sym (drop_of_length-le l {i = at + 1} (omega arith))))

-- ---- packed frames

pub pack-cons : (f : List ℕ) (fs : List (List ℕ)) → pack (f ∷ fs) ≡ length f ∷ f ++ pack fs
unfolding pack
pack-cons f fs = refl

-- the frame behind its length, and where the next one begins
pub frame_here : (bytes : List ℕ) (at : ℕ) (f rest : List ℕ) → drop at bytes ≡ length f ∷ f ++ rest
    → (frame_at bytes at ≡ f) × (drop (at + 1 + length f) bytes ≡ rest)
unfolding frame_at
frame_here bytes at f rest e =
    let h = byte-here bytes at e in (
      ap₂ (λ (i : ℕ) (x : List ℕ). take i x) h.0 h.1 ∙ take_at f rest (length f) refl,
      sym (drop-drop (length f) (at + 1) bytes) ∙ ap (drop (length f)) h.1 ∙ drop_at f rest (length f) refl,
    )

-- no frame is longer than the bytes
pub frame-short : (bytes : List ℕ) (at : ℕ) → length (frame_at bytes at) ≤ length bytes
unfolding frame_at
frame-short bytes at = omega (arith, length-take (get_or bytes at 0) (drop (at + 1) bytes), length-drop (at + 1) bytes)

-- ---- the parts of a view's frame, in the code's words

pub froms-are : (frame : List ℕ) (n : ℕ) → n ≡ get_or frame 1 0 → take n (drop 2 frame) ≡ froms_in frame
unfolding froms_in
froms-are frame n e = ap (λ i. take i (drop 2 frame)) e

pub names-set : (frame : List ℕ) (k : ℕ) → k ≡ get_or frame 0 0 → 4 < k → take 2 (drop 1 frame) ≡ names_in frame
unfolding names_in
names-set frame k e h = rw (le-ltb (get_or frame 0 0) 5 (omega arith))

-- the parts of a view whose kind is known
pub parts-own : (frame : List ℕ) (grouped : Bool) → eqb (get_or frame 0 0) 4 ≡ grouped → parts_after grouped (get_or frame 1 0) frame ≡ parts_in frame
unfolding parts_in
parts-own frame grouped e = rw e

pub names-own : (frame : List ℕ) (k : ℕ) → k ≡ get_or frame 0 0 → k ≤ 4 → froms_in frame ≡ names_in frame
unfolding names_in
names-own frame k e h = rw (lt-ltb (get_or frame 0 0) 5 (omega arith))

abbrev parts : ℕ → ℕ → ℕ → Parts
parts g w b = record { groups = g; width = w; body = b }

pub parts-grouped : (frame : List ℕ) (grouped : Bool) (n g w : ℕ) → grouped ≡ true → n ≡ get_or frame 1 0 → g ≡ get_or frame (n + 2) 0 → w ≡ get_or frame (n + 3) 0
    → parts g w (n + 4) ≡ parts_after grouped (get_or frame 1 0) frame
unfolding parts_after
parts-grouped frame grouped n g w t e a b = rw t (ap₂ (λ (i j : ℕ). parts i j (n + 4)) a b ∙ ap (λ i. parts (get_or frame (i + 2) 0) (get_or frame (i + 3) 0) (i + 4)) e)

pub parts-basic : (frame : List ℕ) (grouped : Bool) (n w : ℕ) → grouped ≡ false → n ≡ get_or frame 1 0 → w ≡ get_or frame (n + 2) 0
    → parts 0 w (n + 3) ≡ parts_after grouped (get_or frame 1 0) frame
unfolding parts_after
parts-basic frame grouped n w t e b = rw t (ap (λ i. parts 0 i (n + 3)) b ∙ ap (λ i. parts 0 (get_or frame (i + 2) 0) (i + 3)) e)
