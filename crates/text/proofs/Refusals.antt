-- What a refusal says of the text: its number, its line. Assumes nothing.
use mathlib.Core.Path.{◌≡◌, refl, sym, ap, ◌∙◌}
use mathlib.Core.Bool.{Bool, true, false, cond}
use mathlib.Core.Logic.{◌⊎◌, inl, inr}
use mathlib.Core.List.{List, [], ◌∷◌, ◌++◌}
use Prim.Native.Nat.{ℕ, ◌+◌, ◌*◌, ◌≤◌, ◌<◌}
use native.Mathlib.Nat.{le_trans, le_refl}
use native.Mathlib.Omega.{arith}
use lib.Dec.{ltb, eqb}
use lib.ListN.{length, length-append}
use borrow.Author.Tests.{lt-ltb, le-ltb, eq-eqb, ne_eqb, eqb-true, ltb-true}
use Rattle.text.specs.Text.{refused, hex_value, State, between, half, wrong, line_after, closed, step, read_on, ended, lines_of, frames_of, FirstWrong}
use Rattle.text.proofs.Runs.{no, run-line, run-text}
use Rattle.text.proofs.Laws.{Stuck, spelt-whole, ended_stuck}

-- ---- the line at which reading stands never falls

abbrev line_of : State → ℕ
line_of (between done frame) = line_after done
line_of (half done frame d) = line_after done
line_of (wrong k) = k

closed-later : (done : List (List ℕ)) (frame : List ℕ) → line_after done ≤ line_of (closed done frame)
closed-later done [] = omega arith
closed-later done (b ∷ bs) = simp length-append (omega arith)

step-later : (s : State) (c : ℕ) → line_of s ≤ line_of (step s c)
unfolding step
step-later (between done frame) c = go (eqb c 10) (ltb (hex_value c) 16) (ltb (length frame) 120)
  where
    go : (p q r : Bool)
        → line_after done ≤ line_of (cond p (closed done frame) (cond q (cond r (half done frame (hex_value c)) (wrong (line_after done))) (wrong (line_after done))))
    go true q r = closed-later done frame
    go false true true = omega arith
    go false true false = omega arith
    go false false r = omega arith
step-later (half done frame d) c = go (ltb (hex_value c) 16)
  where
    go : (p : Bool) → line_after done ≤ line_of (cond p (between done (frame ++ (16 * d + hex_value c) ∷ [])) (wrong (line_after done)))
    go true = omega arith
    go false = omega arith
step-later (wrong k) c = omega arith

run-later : (s : State) (cs : List ℕ) → line_of s ≤ line_of (read_on s cs)
unfolding read_on
run-later s [] = le_refl _
run-later s (c ∷ cs) = le_trans (step-later s c) (run-later (step s c) cs)

ended-line : (s : State) {n k : ℕ} → ended s ≡ refused n k → line_of s ≡ k
ended-line (between done []) e = no cc
ended-line (between done (b ∷ bs)) e = cc
ended-line (half done frame d) e = cc
ended-line (wrong j) e = cc

-- ---- the number of a refusal

module _ (text : List ℕ) where
  pub refusal-number : (n k : ℕ) → frames_of text ≡ refused n k → (n ≡ 1) ⊎ (n ≡ 2)
  unfolding frames_of lines_of
  refusal-number n k = go (eqb (length text) 0) (ltb 8192 (length text))
    where
      go : (p q : Bool) → cond p (refused 1 0) (cond q (refused 1 0) (ended (read_on (between [] []) text))) ≡ refused n k → (n ≡ 1) ⊎ (n ≡ 2)
      go true q e = inl cc
      go false true e = inl cc
      go false false e = inr (ended_stuck (read_on (between [] []) text) text e (spelt-whole text)).0

  -- "1, empty or over 8,192 bytes"
  pub empty-or-long : (k : ℕ) → frames_of text ≡ refused 1 k → (k ≡ 0) × ((length text ≡ 0) ⊎ (8192 < length text))
  unfolding frames_of lines_of
  empty-or-long k = go (eqb (length text) 0) refl (ltb 8192 (length text)) refl
    where
      go : (p : Bool) → eqb (length text) 0 ≡ p → (q : Bool) → ltb 8192 (length text) ≡ q
          → cond p (refused 1 0) (cond q (refused 1 0) (ended (read_on (between [] []) text))) ≡ refused 1 k → (k ≡ 0) × ((length text ≡ 0) ⊎ (8192 < length text))
      go true a q b e = (cc, inl (eqb-true (length text) 0 a))
      go false a true b e = (cc, inr (ltb-true 8192 (length text) b))
      go false a false b e =
          let z : ◌≡◌ {A = ℕ} 1 2 = (ended_stuck (read_on (between [] []) text) text e (spelt-whole text)).0 in
          absurd (omega arith)

  pub empty-refused : length text ≡ 0 → frames_of text ≡ refused 1 0
  unfolding frames_of
  empty-refused h = simp (eq-eqb (length text) 0 h)

  pub long-refused : 8192 < length text → frames_of text ≡ refused 1 0
  unfolding frames_of
  long-refused h = simp (ne_eqb (length text) 0 (omega arith), lt-ltb 8192 (length text) h)

  pub lines-within : (length text ≡ 0 → ⊥) → length text ≤ 8192 → frames_of text ≡ lines_of text
  unfolding frames_of
  lines-within h k = simp (ne_eqb (length text) 0 h, le-ltb 8192 (length text) k)

  -- ---- "2 (line), digits, pairs, length or LF wrong, the first such line"

  stuck-first : (k : ℕ) → ended (read_on (between [] []) text) ≡ refused 2 k → Stuck k text → FirstWrong k text
  stuck-first k e h =
      record {
        before = h.done;
        rest = h.rest;
        text-is = h.spelt;
        well = h.all;
        line-is = h.line-is;
        some = h.some;
        wrong = λ f more well q.
            let passed : read_on (between [] []) text ≡ read_on (between (h.done ++ f ∷ []) []) more =
            ap (read_on (between [] [])) h.spelt
            ∙ run-text [] h.done h.rest h.all
            ∙ ap (read_on (between h.done [])) q
            ∙ run-line h.done f more well in
            let l : line_of (read_on (between (h.done ++ f ∷ []) []) more) ≡ k = ap line_of (sym passed) ∙ ended-line (read_on (between [] []) text) e in
            let m : line_after (h.done ++ f ∷ []) ≤ line_of (read_on (between (h.done ++ f ∷ []) []) more) = run-later (between (h.done ++ f ∷ []) []) more in
            omega (arith, l, m, h.line-is, length-append h.done (f ∷ []));
      }

  pub first-wrong : (k : ℕ) → frames_of text ≡ refused 2 k → FirstWrong k text
  unfolding frames_of lines_of
  first-wrong k = go (eqb (length text) 0) (ltb 8192 (length text))
    where
      go : (p q : Bool) → cond p (refused 1 0) (cond q (refused 1 0) (ended (read_on (between [] []) text))) ≡ refused 2 k → FirstWrong k text
      go true q e = let z : ◌≡◌ {A = ℕ} 1 2 = cc in absurd (omega arith)
      go false true e = let z : ◌≡◌ {A = ℕ} 1 2 = cc in absurd (omega arith)
      go false false e = stuck-first k e (ended_stuck (read_on (between [] []) text) text e (spelt-whole text)).1
