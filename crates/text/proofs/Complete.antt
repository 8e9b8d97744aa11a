-- A text is read as `Gives` says, and in no other way.
--     behind_all    a state, with lines before those that it has read
-- Assumes nothing.
use mathlib.Core.Path.{◌≡◌, refl, sym, ap, subst, ◌∙◌}
use mathlib.Core.Bool.{Bool, true, false, cond}
use mathlib.Core.Logic.{⊎_elim}
use mathlib.Core.List.{List, [], ◌∷◌, ◌++◌, append_assoc, append-nil}
use Prim.Native.Nat.{ℕ, ◌+◌, ◌*◌, ◌≤◌, ◌<◌}
use native.Mathlib.Omega.{arith}
use lib.Dec.{ltb, eqb}
use lib.ListN.{length, length-append}
use borrow.Author.Tests.{eqb-true, eqb-false, ltb-true, ltb-false}
use Rattle.value.specs.Bag.{All}
use Rattle.value.proofs.Decides.{by-test}
use Rattle.text.specs.Text.{Lines, frames, refused, hex_value, State, between, half, wrong, line_after, closed, step, read_on, ended, lines_of, frames_of, hex, line, text_of, Frame, FirstWrong, Gives, accepted, empty, long, wrong-line}
use Rattle.text.proofs.Runs.{run-text}
use Rattle.text.proofs.Laws.{Stuck, Spelt, stuck-half, spelt-whole, text-long, reads-back, only-such}
use Rattle.text.proofs.Refusals.{empty-refused, long-refused, lines-within, refusal-number, empty-or-long, first-wrong}

-- ---- lines read behind others

abbrev behind_all : List (List ℕ) → State → State
behind_all gs (between done frame) = between (gs ++ done) frame
behind_all gs (half done frame d) = half (gs ++ done) frame d
behind_all gs (wrong k) = wrong (length gs + k)

module _ (gs : List (List ℕ)) where
  later : (done : List (List ℕ)) → wrong (line_after (gs ++ done)) ≡ wrong (length gs + line_after done)
  later done = ap wrong (simp length-append (omega arith))

  closed-behind : (done : List (List ℕ)) (frame : List ℕ) → closed (gs ++ done) frame ≡ behind_all gs (closed done frame)
  closed-behind done [] = later done
  closed-behind done (b ∷ bs) = ap (λ (l : List (List ℕ)). between l []) (append_assoc gs done ((b ∷ bs) ∷ []))

  step-behind : (s : State) (c : ℕ) → step (behind_all gs s) c ≡ behind_all gs (step s c)
  unfolding step
  step-behind (between done frame) c = go (eqb c 10) (ltb (hex_value c) 16) (ltb (length frame) 120)
    where
      go : (p q r : Bool)
          → cond p (closed (gs ++ done) frame) (cond q (cond r (half (gs ++ done) frame (hex_value c)) (wrong (line_after (gs ++ done)))) (wrong (line_after (gs ++ done))))
          ≡ behind_all gs (cond p (closed done frame) (cond q (cond r (half done frame (hex_value c)) (wrong (line_after done))) (wrong (line_after done))))
      go true q r = closed-behind done frame
      go false true true = refl
      go false true false = later done
      go false false r = later done
  step-behind (half done frame d) c = go (ltb (hex_value c) 16)
    where
      go : (p : Bool)
          → cond p (between (gs ++ done) (frame ++ (16 * d + hex_value c) ∷ [])) (wrong (line_after (gs ++ done)))
          ≡ behind_all gs (cond p (between done (frame ++ (16 * d + hex_value c) ∷ [])) (wrong (line_after done)))
      go true = refl
      go false = later done
  step-behind (wrong k) c = refl

  run-behind : (s : State) (cs : List ℕ) → read_on (behind_all gs s) cs ≡ behind_all gs (read_on s cs)
  unfolding read_on
  run-behind s [] = refl
  run-behind s (c ∷ cs) = ap (λ (t : State). read_on t cs) (step-behind s c) ∙ run-behind (step s c) cs

-- ---- a rest that begins with no frame's line is wrong at its first line

module _ {rest : List ℕ} (wrong-here : (f more : List ℕ) → Frame f → rest ≡ line f ++ more → ⊥) where
  none_read : (done : List (List ℕ)) (more : List ℕ) → All Frame done → rest ≡ text_of done ++ more → done ≡ []
  unfolding text_of
  none_read [] more all e = refl
  none_read (f ∷ fs) more (All.cons h hs) e = absurd (wrong-here f (text_of fs ++ more) h (e ∙ append_assoc (line f) (text_of fs) more))

  stuck-one : {k : ℕ} → Stuck k rest → k ≡ 1
  stuck-one h = h.line-is ∙ ap line_after (none_read h.done h.rest h.all h.spelt)

  module _ (gs : List (List ℕ)) (some : 1 ≤ length rest) where
    ends-wrong : (s : State) → Spelt s rest → ended (behind_all gs s) ≡ refused 2 (length gs + 1)
    unfolding text_of hex
    ends-wrong (between done []) h =
        let z : rest ≡ text_of [] ++ [] = subst (λ (l : List (List ℕ)). rest ≡ text_of l ++ []) (none_read done [] h.all h.spelt) h.spelt in
        absurd (omega (arith, ap length z))
    ends-wrong (between done (b ∷ bs)) h =
        let z : done ≡ [] = none_read done (hex (b ∷ bs)) h.all h.spelt in
        ap (refused 2) (simp length-append (omega (arith, ap length z)))
    ends-wrong (half done frame d) h =
        let z : line_after done ≡ 1 = stuck-one (stuck-half h) in
        ap (refused 2) (simp length-append (omega (arith, z)))
    ends-wrong (wrong k) h = ap (λ (j : ℕ). refused 2 (length gs + j)) (stuck-one h)

pub wrong-refused : {k : ℕ} {text : List ℕ} → FirstWrong k text → length text ≤ 8192 → frames_of text ≡ refused 2 k
unfolding lines_of
wrong-refused {k} {text} w few =
    lines-within text (omega (arith, w.some, ap length w.text-is, length-append (text_of w.before) w.rest)) few
    ∙ ap (λ (l : List ℕ). ended (read_on (between [] []) l)) w.text-is
    ∙ ap ended (run-text [] w.before w.rest w.well)
    ∙ ap ended (ap (λ (l : List (List ℕ)). read_on (between l []) w.rest) (sym (append-nil w.before)) ∙ run-behind w.before (between [] []) w.rest)
    ∙ ends-wrong w.wrong w.before w.some (read_on (between [] []) w.rest) (spelt-whole w.rest)
    ∙ ap (refused 2) (sym w.line-is)

-- ---- the whole

module _ (text : List ℕ) where
  some-frame : (fs : List (List ℕ)) → text ≡ text_of fs → (length text ≡ 0 → ⊥) → 1 ≤ length fs
  unfolding text_of
  some-frame [] e n = absurd (n (ap length e))
  some-frame (f ∷ fs) e n = omega arith

  within : (length text ≡ 0 → ⊥) → length text ≤ 8192 → (l : Lines) → frames_of text ≡ l → Gives text l
  within n few (frames fs) e =
      let h = only-such text fs e in
      accepted h.0 h.1 (some-frame fs h.0 n) few
  within n few (refused m k) e =
      ⊎_elim
      (λ p.
      let h = empty-or-long text k (e ∙ ap (λ (j : ℕ). refused j k) p) in
      absurd (⊎_elim n (λ (q : 8192 < length text). omega arith) h.1))
      (λ p. subst (λ (j : ℕ). Gives text (refused j k)) (sym p) (wrong-line (first-wrong text k (e ∙ ap (λ (j : ℕ). refused j k) p)) few))
      (refusal-number text m k e)

  pub gives : Gives text (frames_of text)
  gives =
      by-test (eqb (length text) 0)
      (λ p. let h = eqb-true (length text) 0 p in subst (Gives text) (sym (empty-refused text h)) (empty h))
      (λ p.
      by-test (ltb 8192 (length text))
      (λ q. let h = ltb-true 8192 (length text) q in subst (Gives text) (sym (long-refused text h)) (long h))
      (λ q. within (eqb-false (length text) 0 p) (ltb-false 8192 (length text) q) (frames_of text) refl))

pub gives-only : {text : List ℕ} {l : Lines} → Gives text l → frames_of text ≡ l
gives-only {text} (accepted {fs} e all some few) = ap frames_of e ∙ reads-back fs all some (rw e at few)
gives-only {text} (empty h) = empty-refused text h
gives-only {text} (long h) = long-refused text h
gives-only (wrong-line w few) = wrong-refused w few

-- ---- lines are few

-- the first wrong line is one of the text, which has at least as many characters as lines
pub wrong-few : {k : ℕ} {text : List ℕ} → FirstWrong k text → k ≤ length text
wrong-few w = omega (arith, w.line-is, w.some, text-long w.before, length-append (text_of w.before) w.rest, ap length w.text-is)

pub frames-few : {text : List ℕ} {fs : List (List ℕ)} → Gives text (frames fs) → length fs ≤ 8192
frames-few {fs = fs} (accepted t good one few) = omega (arith, ap length t, text-long fs)
