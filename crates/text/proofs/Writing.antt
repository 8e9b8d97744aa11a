-- Where the loop over a frame stands, and what is written reads back.
--     Turn    how much of the line is written, and where
-- Assumes nothing.
use mathlib.Core.Path.{◌≡◌, refl, sym, ap, ◌∙◌}
use mathlib.Core.Bool.{Bool, true, false, cond}
use mathlib.Core.List.{List, [], ◌∷◌, ◌++◌}
use Prim.Native.Nat.{ℕ, zero, suc, ◌+◌, ◌*◌, ◌/◌, ◌%◌, ◌≤◌, ◌<◌}
use native.Mathlib.Omega.{arith}
use lib.ListN.{length, get_or, take, drop, set, length-append, length-set}
use lib.Seq.{paste, paste-zero, paste-suc, take-length, take-paste, drop-paste, length-paste}
use borrow.Author.Tests.{le-leb, lt-leb, leb-true}
use Rattle.value.specs.Bag.{All}
use Rattle.text.specs.Text.{frames, frames_of, hex_digit, hex, line, text_of, Frame}
use Rattle.text.specs.Answers.{fits, written, behind, Written}
use Rattle.text.proofs.Laws.{reads-back, text-snoc, all_snoc}

-- ---- the characters of a line

length-hex : (f : List ℕ) → length (hex f) ≡ 2 * length f
unfolding hex
length-hex [] = refl
length-hex (b ∷ bs) = let e : length (hex bs) ≡ 2 * length bs = length-hex bs in omega arith

pub length-line : (f : List ℕ) → length (line f) ≡ 2 * length f + 1
unfolding line
length-line f = length-append (hex f) (10 ∷ []) ∙ ap (λ (n : ℕ). n + 1) (length-hex f)

-- lines of at most 120 bytes have at most 241 characters
pub text-length : {fs : List (List ℕ)} → All (λ f. length f ≤ 120) fs → length (text_of fs) ≤ 241 * length fs
unfolding text_of
text-length All.nil = omega arith
text-length (All.cons {x = f} {xs = fs} h hs) =
    let n = text-length hs in
    let e : length (line f ++ text_of fs) ≡ length (line f) + length (text_of fs) = length-append (line f) (text_of fs) in
    omega (arith, length-line f)

line-high : (f : List ℕ) (i : ℕ) → i < length f → get_or (line f) (2 * i) 0 ≡ hex_digit (get_or f i 0 / 16)
unfolding line hex
line-high [] i h = absurd (omega arith)
line-high (b ∷ bs) zero h = refl
line-high (b ∷ bs) (suc i) h = let e : 2 * suc i ≡ suc (suc (2 * i)) = omega arith in rw e (line-high bs i (omega arith))

line_low : (f : List ℕ) (i : ℕ) → i < length f → get_or (line f) (suc (2 * i)) 0 ≡ hex_digit (get_or f i 0 % 16)
unfolding line hex
line_low [] i h = absurd (omega arith)
line_low (b ∷ bs) zero h = refl
line_low (b ∷ bs) (suc i) h = let e : 2 * suc i ≡ suc (suc (2 * i)) = omega arith in rw e (line_low bs i (omega arith))

line-end : (f : List ℕ) → get_or (line f) (2 * length f) 0 ≡ 10
unfolding line hex
line-end [] = refl
line-end (b ∷ bs) = let e : 2 * suc (length bs) ≡ suc (suc (2 * length bs)) = omega arith in rw e (line-end bs)

-- ---- the loop

module _ (frame out : List ℕ) (at : ℕ) where
  pub no_room : length out < at + (2 * length frame + 1) → Written frame at out at out
  unfolding written behind
  no_room h =
      let t : fits frame at out ≡ false = lt-leb (at + length (line frame)) (length out) (omega (arith, length-line frame)) in
      record { next = simp t; left = simp t }

  pub record Turn (now : List ℕ) (i : ℕ) : Type 0 where
    pub left : now ≡ paste out at (line frame) (2 * i)
    pub within : i ≤ length frame
    pub room : at + (2 * length frame + 1) ≤ length out
    pub same : length now ≡ length out

  pub begin : at + (2 * length frame + 1) ≤ length out → Turn out 0
  begin h = record { left = paste-zero out at (line frame); within = omega arith; room = h; same = refl }

  module _ {now : List ℕ} {i : ℕ} (t : Turn now i) where
    pub next-byte : (high low : ℕ) → i < length frame → high ≡ hex_digit (get_or frame i 0 / 16) → low ≡ hex_digit (get_or frame i 0 % 16)
        → Turn (set (set now (at + 2 * i) high) (at + 2 * i + 1) low) (i + 1)
    next-byte high low h p q =
        let n : length (line frame) ≡ 2 * length frame + 1 = length-line frame in
        let first : set (paste out at (line frame) (2 * i)) (at + 2 * i) (get_or (line frame) (2 * i) 0) ≡ paste out at (line frame) (suc (2 * i)) =
        paste-suc out at (line frame) (2 * i) 0 (omega arith) (omega arith) in
        let second : set (paste out at (line frame) (suc (2 * i))) (at + suc (2 * i)) (get_or (line frame) (suc (2 * i)) 0) ≡ paste out at (line frame) (suc (suc (2 * i))) =
        paste-suc out at (line frame) (suc (2 * i)) 0 (omega arith) (omega arith) in
        let there : at + 2 * i + 1 ≡ at + suc (2 * i) = omega arith in
        let turn : 2 * (i + 1) ≡ suc (suc (2 * i)) = omega arith in
        record {
          left = rw (t.left, there, turn, p, q, ← line-high frame i h, first, ← line_low frame i h) second;
          within = omega arith;
          room = t.room;
          same = simp length-set t.same;
        }

    pub line-done : i ≡ length frame → Written frame at out (at + 2 * length frame + 1) (set now (at + 2 * length frame) 10)
    unfolding written behind
    line-done e =
        let n : length (line frame) ≡ 2 * length frame + 1 = length-line frame in
        let yes-fits : fits frame at out ≡ true = le-leb (at + length (line frame)) (length out) (omega (arith, t.room)) in
        let last : set (paste out at (line frame) (2 * length frame)) (at + 2 * length frame) (get_or (line frame) (2 * length frame) 0) ≡ paste out at (line frame) (suc (2 * length frame)) =
        paste-suc out at (line frame) (2 * length frame) 0 (omega (arith, t.room)) (omega arith) in
        let whole : suc (2 * length frame) ≡ length (line frame) = omega arith in
        record {
          next = rw yes-fits (omega arith);
          left = rw (yes-fits, t.left, e, ← line-end frame, last, whole, take-length (line frame)) refl;
        }

-- ---- what is written

module _ (frame out : List ℕ) (at : ℕ) where
  pub length-written : length (written frame at out) ≡ length out
  unfolding written
  length-written = go (fits frame at out) refl
    where
      go : (t : Bool) → fits frame at out ≡ t → length (cond t (take at out ++ line frame ++ drop (at + length (line frame)) out) out) ≡ length out
      go true e =
          let k : at + length (line frame) ≤ length out = leb-true _ _ e in
          ap (λ (l : List ℕ). length (take at out ++ l ++ drop (at + length (line frame)) out)) (sym (take-length (line frame)))
          ∙ length-paste out at (line frame) (length (line frame)) k (omega arith)
      go false e = refl

  module _ (room : at + length (line frame) ≤ length out) where
    pub behind-line : behind frame at out ≡ at + length (line frame)
    unfolding behind
    behind-line = simp (le-leb _ _ room)

    as-paste : written frame at out ≡ paste out at (line frame) (length (line frame))
    unfolding written
    as-paste = simp (le-leb _ _ room, take-length (line frame))

    -- behind what stood before `at` stands the line
    pub take-written : take (behind frame at out) (written frame at out) ≡ take at out ++ line frame
    take-written =
        rw (behind-line, as-paste) (take-paste out at (line frame) (length (line frame)) (omega arith) (omega arith) ∙ ap (λ (l : List ℕ). take at out ++ l) (take-length (line frame)))

    -- and behind the line what stood there
    pub drop-written : drop (behind frame at out) (written frame at out) ≡ drop (behind frame at out) out
    drop-written = rw (behind-line, as-paste) (drop-paste out at (line frame) (length (line frame)) (omega arith) (omega arith))

    -- lines written one after the other read back as their frames
    module _ (fs : List (List ℕ)) (before : take at out ≡ text_of fs) where
      pub text-written : take (behind frame at out) (written frame at out) ≡ text_of (fs ++ frame ∷ [])
      text-written = take-written ∙ rw (before, text-snoc)

      pub reads-written : All Frame fs → Frame frame → length (text_of (fs ++ frame ∷ [])) ≤ 8192
          → frames_of (take (behind frame at out) (written frame at out)) ≡ frames (fs ++ frame ∷ [])
      reads-written all well few =
          ap frames_of text-written
          ∙ reads-back (fs ++ frame ∷ []) (all_snoc all well) (simp length-append (omega arith)) few
