-- Frames as text, and the text read, give the frames back; and only such texts are accepted.
--     Spelt    the text that leads to a state
-- Assumes nothing.
use mathlib.Core.Path.{◌≡◌, refl, sym, ap, subst, ◌∙◌}
use mathlib.Core.Bool.{Bool, true, false, cond}
use mathlib.Core.List.{List, [], ◌∷◌, ◌++◌, append_assoc, append-nil}
use Prim.Native.Nat.{ℕ, ◌+◌, ◌*◌, ◌/◌, ◌%◌, ◌≤◌, ◌<◌}
use native.Mathlib.Omega.{arith}
use lib.Dec.{ltb, eqb}
use lib.ListN.{length, length-append}
use borrow.Author.Tests.{le-ltb, ne_eqb, eqb-true, ltb-true}
use Rattle.value.specs.Bag.{All}
use Rattle.text.specs.Text.{frames, refused, hex_value, State, between, half, wrong, line_after, closed, step, read_on, ended, lines_of, frames_of, hex_digit, hex, line, text_of, Frame}
use Rattle.text.proofs.Digits.{hex-of-digit}
use Rattle.text.proofs.Runs.{no, run-text}

-- ---- what is written is read

run-whole : (fs : List (List ℕ)) → All Frame fs → read_on (between [] []) (text_of fs) ≡ between fs []
unfolding read_on
run-whole fs h = rw (append-nil (text_of fs)) at (run-text [] fs [] h)

-- a text has at least as many characters as lines
pub text-long : (fs : List (List ℕ)) → length fs ≤ length (text_of fs)
unfolding text_of line
text-long [] = omega arith
text-long (f ∷ fs) = simp length-append (omega (arith, text-long fs))

pub reads-back : (fs : List (List ℕ)) → All Frame fs → 1 ≤ length fs → length (text_of fs) ≤ 8192 → frames_of (text_of fs) ≡ frames fs
unfolding frames_of lines_of
reads-back fs h some few =
    let full : 1 ≤ length (text_of fs) = omega (arith, text-long fs) in
    rw (ne_eqb (length (text_of fs)) 0 (omega arith), le-ltb 8192 (length (text_of fs)) few) (ap ended (run-whole fs h))

-- ---- what is read was written

hex-snoc : (f : List ℕ) (v : ℕ) → hex (f ++ v ∷ []) ≡ hex f ++ hex_digit (v / 16) ∷ hex_digit (v % 16) ∷ []
unfolding hex
hex-snoc [] v = refl
hex-snoc (b ∷ bs) v = rw (hex-snoc bs v)

pub text-one : (f : List ℕ) → text_of (f ∷ []) ≡ line f
unfolding text_of
text-one f = append-nil (line f)

pub text-append : (fs gs : List (List ℕ)) → text_of (fs ++ gs) ≡ text_of fs ++ text_of gs
unfolding text_of
text-append [] gs = refl
text-append (f ∷ fs) gs = ap (λ (l : List ℕ). line f ++ l) (text-append fs gs) ∙ sym (append_assoc (line f) (text_of fs) (text_of gs))

pub text-snoc : (fs : List (List ℕ)) (f : List ℕ) → text_of (fs ++ f ∷ []) ≡ text_of fs ++ line f
text-snoc fs f = text-append fs (f ∷ []) ∙ ap (λ (l : List ℕ). text_of fs ++ l) (text-one f)

pub all_snoc : {A : Type 0} {P : A → Type 0} {xs : List A} {x : A} → All P xs → P x → All P (xs ++ x ∷ [])
all_snoc All.nil h = All.cons h All.nil
all_snoc (All.cons k ks) h = All.cons k (all_snoc ks h)

pub record Open (done : List (List ℕ)) (frame text : List ℕ) : Type 0 where
  pub spelt : text ≡ text_of done ++ hex frame
  pub all : All Frame done
  pub bytes : All (λ b. b < 256) frame
  pub few : length frame ≤ 120

pub record Half (done : List (List ℕ)) (frame : List ℕ) (d : ℕ) (text : List ℕ) : Type 0 where
  pub before : List ℕ
  pub spelt : text ≡ before ++ hex_digit d ∷ []
  pub begun : Open done frame before
  pub fewer : length frame < 120
  pub small : d < 16

-- the lines before line k are well, and more follows
pub record Stuck (k : ℕ) (text : List ℕ) : Type 0 where
  pub done : List (List ℕ)
  pub rest : List ℕ
  pub spelt : text ≡ text_of done ++ rest
  pub all : All Frame done
  pub line-is : k ≡ line_after done
  pub some : 1 ≤ length rest

abbrev pub Spelt : State → List ℕ → Type 0
Spelt (between done frame) text = Open done frame text
Spelt (half done frame d) text = Half done frame d text
Spelt (wrong k) text = Stuck k text

-- a wrong character behind whole bytes, and one behind a first digit
stuck-open : {done : List (List ℕ)} {frame text : List ℕ} (c : ℕ) → Open done frame text → Stuck (line_after done) (text ++ c ∷ [])
stuck-open {done} {frame} {text} c h =
    record {
      done = done;
      rest = hex frame ++ c ∷ [];
      spelt = rw h.spelt (append_assoc (text_of done) (hex frame) (c ∷ []));
      all = h.all;
      line-is = refl;
      some = simp length-append (omega arith);
    }

stuck-more : {k : ℕ} {text : List ℕ} (c : ℕ) → Stuck k text → Stuck k (text ++ c ∷ [])
stuck-more {k} {text} c h =
    record {
      done = h.done;
      rest = h.rest ++ c ∷ [];
      spelt = ap (λ (l : List ℕ). l ++ c ∷ []) h.spelt ∙ append_assoc (text_of h.done) h.rest (c ∷ []);
      all = h.all;
      line-is = h.line-is;
      some = simp length-append (omega arith);
    }

pub stuck-half : {done : List (List ℕ)} {frame text : List ℕ} {d : ℕ} → Half done frame d text → Stuck (line_after done) text
stuck-half {d = d} h = rw (sym h.spelt) at (stuck-open (hex_digit d) h.begun)

close-spelt : (done : List (List ℕ)) (frame text : List ℕ) → Open done frame text → Spelt (closed done frame) (text ++ 10 ∷ [])
unfolding line hex
close-spelt done [] text h = stuck-open 10 h
close-spelt done (b ∷ bs) text h =
    record {
      spelt = ap (λ (l : List ℕ). l ++ 10 ∷ []) h.spelt ∙ append_assoc (text_of done) (hex (b ∷ bs)) (10 ∷ []) ∙ sym (append-nil (text_of (done ++ (b ∷ bs) ∷ [])) ∙ text-snoc done (b ∷ bs));
      all = all_snoc h.all (record { bytes = h.bytes; some = omega arith; few = h.few });
      bytes = All.nil;
      few = omega arith;
    }

step-spelt : (s : State) (text : List ℕ) (c : ℕ) → Spelt s text → Spelt (step s c) (text ++ c ∷ [])
unfolding step
step-spelt (between done frame) text c h = go (eqb c 10) refl (ltb (hex_value c) 16) refl (ltb (length frame) 120) refl
  where
    go : (p : Bool) → eqb c 10 ≡ p → (q : Bool) → ltb (hex_value c) 16 ≡ q → (r : Bool) → ltb (length frame) 120 ≡ r
        → Spelt (cond p (closed done frame) (cond q (cond r (half done frame (hex_value c)) (wrong (line_after done))) (wrong (line_after done)))) (text ++ c ∷ [])
    go true e q f r g = rw (eqb-true c 10 e) (close-spelt done frame text h)
    go false e true f true g =
        let d : hex_value c < 16 = ltb-true _ _ f in
        record { before = text; spelt = rw (hex-of-digit c d); begun = h; fewer = ltb-true _ _ g; small = d }
    go false e true f false g = stuck-open c h
    go false e false f r g = stuck-open c h
step-spelt (half done frame d) text c h = go (ltb (hex_value c) 16) refl
  where
    go : (p : Bool) → ltb (hex_value c) 16 ≡ p → Spelt (cond p (between done (frame ++ (16 * d + hex_value c) ∷ [])) (wrong (line_after done))) (text ++ c ∷ [])
    go true e =
        let k : hex_value c < 16 = ltb-true _ _ e in
        let s : d < 16 = h.small in
        let high : (16 * d + hex_value c) / 16 ≡ d = omega arith in
        let low : (16 * d + hex_value c) % 16 ≡ hex_value c = omega arith in
        record {
          spelt = rw (hex-snoc, high, low, hex-of-digit c k, h.spelt, h.begun.spelt) (simp append_assoc);
          all = h.begun.all;
          bytes = all_snoc h.begun.bytes (omega arith);
          few = simp length-append (omega (arith, h.fewer));
        }
    go false e = stuck-more c (stuck-half h)
step-spelt (wrong k) text c h = stuck-more c h

run-spelt : (s : State) (text cs : List ℕ) → Spelt s text → Spelt (read_on s cs) (text ++ cs)
unfolding read_on
run-spelt s text [] h = rw (append-nil text) h
run-spelt s text (c ∷ cs) h = rw append_assoc at (run-spelt (step s c) (text ++ c ∷ []) cs (step-spelt s text c h))

pub spelt-whole : (text : List ℕ) → Spelt (read_on (between [] []) text) text
unfolding text_of hex
spelt-whole text = run-spelt (between [] []) [] text (record { spelt = refl; all = All.nil; bytes = All.nil; few = omega arith })

ended-frames : (s : State) (text : List ℕ) {fs : List (List ℕ)} → ended s ≡ frames fs → Spelt s text → (text ≡ text_of fs) × All Frame fs
unfolding hex
ended-frames (between done []) text {fs} e h =
    let q : done ≡ fs = cc in
    subst (λ (l : List (List ℕ)). (text ≡ text_of l) × All Frame l) q (h.spelt ∙ append-nil _, h.all)
ended-frames (between done (b ∷ bs)) text e h = no cc
ended-frames (half done frame d) text e h = no cc
ended-frames (wrong k) text e h = no cc

-- an accepted text is the text of its frames
pub only-such : (text : List ℕ) (fs : List (List ℕ)) → frames_of text ≡ frames fs → (text ≡ text_of fs) × All Frame fs
unfolding frames_of lines_of
only-such text fs = go (eqb (length text) 0) (ltb 8192 (length text))
  where
    go : (p q : Bool) → cond p (refused 1 0) (cond q (refused 1 0) (ended (read_on (between [] []) text))) ≡ frames fs → (text ≡ text_of fs) × All Frame fs
    go true q e = no cc
    go false true e = no cc
    go false false e = ended-frames (read_on (between [] []) text) text e (spelt-whole text)

-- ---- the end of the text where a line is not closed

pub ended_stuck : (s : State) (text : List ℕ) {n k : ℕ} → ended s ≡ refused n k → Spelt s text → (n ≡ 2) × Stuck k text
unfolding hex
ended_stuck (between done []) text e h = no cc
ended_stuck (between done (b ∷ bs)) text {k = k} e h = (cc, subst (λ (j : ℕ). Stuck j text) (cc) stuck)
  where
    stuck : Stuck (line_after done) text
    stuck = record { done = done; rest = hex (b ∷ bs); spelt = h.spelt; all = h.all; line-is = refl; some = omega arith }
ended_stuck (half done frame d) text e h = (cc, subst (λ (j : ℕ). Stuck j text) (cc) (stuck-half h))
ended_stuck (wrong j) text e h = (cc, subst (λ (i : ℕ). Stuck i text) (cc) h)
