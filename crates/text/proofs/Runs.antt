-- How reading goes on: at a LF, at a pair of digits, at a wrong place. Assumes nothing.
use mathlib.Core.Path.{◌≡◌, refl, ap, ◌∙◌}
use mathlib.Core.Bool.{Bool, true, false, cond}
use mathlib.Core.List.{List, [], ◌∷◌, ◌++◌, append_assoc, append-nil}
use Prim.Native.Nat.{ℕ, ◌+◌, ◌*◌, ◌/◌, ◌%◌, ◌≤◌, ◌<◌}
use native.Mathlib.Omega.{arith}
use lib.Dec.{ltb, eqb}
use lib.ListN.{length, get_or, drop, length-append}
use borrow.Author.Tests.{lt-ltb, le-ltb}
use Rattle.value.specs.Bag.{All}
use Rattle.text.specs.Text.{refused, hex_value, between, half, wrong, line_after, closed, opened, step, read_on, ended, hex_digit, hex, line, text_of, Frame}
use Rattle.text.specs.Pair.{PairRead, pair_of}
use Rattle.text.proofs.Digits.{hex-no-lf, pair-of-hex}

-- a case that cannot be
pub no : {A : Type 0} → ◌≡◌ {A = ℕ} 0 1 → A
no z = absurd (omega arith)

-- a wrong line stays wrong
run-wrong : (k : ℕ) (cs : List ℕ) → read_on (wrong k) cs ≡ wrong k
unfolding read_on step
run-wrong k [] = refl
run-wrong k (c ∷ cs) = run-wrong k cs

byte-tests : (t u : Bool) {w v : ℕ} → cond t (cond u (PairRead.byte w) (PairRead.refused 2)) (PairRead.refused 2) ≡ PairRead.byte v → (t ≡ true) × (u ≡ true) × (w ≡ v)
byte-tests true true e = (refl, refl, cc)
byte-tests true false e = no cc
byte-tests false u e = no cc

pub pair-long : (cs : List ℕ) {v : ℕ} → pair_of cs ≡ PairRead.byte v → 2 ≤ length cs
unfolding pair_of
pair-long [] e = no cc
pair-long (a ∷ []) e = no cc
pair-long (a ∷ b ∷ rest) e = omega arith

module _ (done : List (List ℕ)) (frame : List ℕ) where
  pub run-byte : (cs : List ℕ) (v : ℕ) → eqb (get_or cs 0 0) 10 ≡ false → length frame < 120 → pair_of cs ≡ PairRead.byte v
      → read_on (between done frame) cs ≡ read_on (between done (frame ++ v ∷ [])) (drop 2 cs)
  unfolding pair_of read_on step
  run-byte [] v n few e = no cc
  run-byte (a ∷ []) v n few e = no cc
  run-byte (a ∷ b ∷ rest) v n few e =
      let h = byte-tests (ltb (hex_value a) 16) (ltb (hex_value b) 16) e in
      simp (n, h.0, h.1, lt-ltb (length frame) 120 few, h.2)

  pub run-close : (a : ℕ) (cs : List ℕ) → eqb a 10 ≡ true → 0 < length frame
      → read_on (between done frame) (a ∷ cs) ≡ read_on (between (done ++ frame ∷ []) []) cs
  unfolding read_on step
  run-close a cs n h = rw n (go frame h)
    where
      go : (f : List ℕ) → 0 < length f → read_on (closed done f) cs ≡ read_on (between (done ++ f ∷ []) []) cs
      go [] k = absurd (omega arith)
      go (b ∷ bs) k = refl

  -- a first digit, and the end
  opened-ends : (d : ℕ) → ended (opened done frame d) ≡ refused 2 (line_after done)
  opened-ends d = go (ltb d 16) (ltb (length frame) 120)
    where
      go : (t u : Bool) → ended (cond t (cond u (half done frame d) (wrong (line_after done))) (wrong (line_after done))) ≡ refused 2 (line_after done)
      go true true = refl
      go true false = refl
      go false u = refl

  -- a first digit, and then a character that makes no pair with it
  pair_ends : (t u s : Bool) (d b w : ℕ) (rest : List ℕ) → ltb (hex_value b) 16 ≡ u → cond t (cond u (PairRead.byte w) (PairRead.refused 2)) (PairRead.refused 2) ≡ PairRead.refused 2
      → ended (read_on (step (cond t (cond s (half done frame d) (wrong (line_after done))) (wrong (line_after done))) b) rest) ≡ refused 2 (line_after done)
  unfolding step
  pair_ends true true s d b w rest p e = no cc
  pair_ends true false true d b w rest p e = rw p (ap ended (run-wrong (line_after done) rest))
  pair_ends true false false d b w rest p e = ap ended (run-wrong (line_after done) rest)
  pair_ends false u s d b w rest p e = ap ended (run-wrong (line_after done) rest)

  pub run-no-pair : (cs : List ℕ) → eqb (get_or cs 0 0) 10 ≡ false → 0 < length cs → pair_of cs ≡ PairRead.refused 2
      → ended (read_on (between done frame) cs) ≡ refused 2 (line_after done)
  unfolding pair_of read_on step
  run-no-pair [] n h e = absurd (omega arith)
  run-no-pair (a ∷ []) n h e = rw n (opened-ends (hex_value a))
  run-no-pair (a ∷ b ∷ rest) n h e =
      rw n (pair_ends (ltb (hex_value a) 16) (ltb (hex_value b) 16) (ltb (length frame) 120) (hex_value a) b (16 * hex_value a + hex_value b) rest refl e)

  pub run_long : (a : ℕ) (cs : List ℕ) → eqb a 10 ≡ false → 120 ≤ length frame
      → ended (read_on (between done frame) (a ∷ cs)) ≡ refused 2 (line_after done)
  unfolding read_on step
  run_long a cs n h = rw (n, le-ltb (length frame) 120 h) (go (ltb (hex_value a) 16))
    where
      go : (t : Bool) → ended (read_on (cond t (wrong (line_after done)) (wrong (line_after done))) cs) ≡ refused 2 (line_after done)
      go true = ap ended (run-wrong (line_after done) cs)
      go false = ap ended (run-wrong (line_after done) cs)

  pub run-empty : (a : ℕ) (cs : List ℕ) → eqb a 10 ≡ true → frame ≡ []
      → ended (read_on (between done frame) (a ∷ cs)) ≡ refused 2 (line_after done)
  unfolding read_on step
  run-empty a cs n e = rw (n, e) (ap ended (run-wrong (line_after done) cs))

-- ---- lines that are well are passed

run-hex : (done : List (List ℕ)) (frame bs rest : List ℕ) → All (λ b. b < 256) bs → length frame + length bs ≤ 120
    → read_on (between done frame) (hex bs ++ rest) ≡ read_on (between done (frame ++ bs)) rest
unfolding hex
run-hex done frame [] rest All.nil h = rw (append-nil frame)
run-hex done frame (b ∷ bs) rest (All.cons k ks) h =
    run-byte done frame (hex_digit (b / 16) ∷ hex_digit (b % 16) ∷ (hex bs ++ rest)) b (hex-no-lf (b / 16) (omega arith)) (omega arith) (pair-of-hex b _ k)
    ∙ run-hex done (frame ++ b ∷ []) bs rest ks (simp length-append (omega arith))
    ∙ rw append_assoc

pub run-line : (done : List (List ℕ)) (f rest : List ℕ) → Frame f → read_on (between done []) (line f ++ rest) ≡ read_on (between (done ++ f ∷ []) []) rest
unfolding line
run-line done f rest h =
    ap (read_on (between done [])) (append_assoc (hex f) (10 ∷ []) rest)
    ∙ run-hex done [] f (10 ∷ rest) h.bytes (omega (arith, h.few))
    ∙ run-close done f 10 rest refl (omega (arith, h.some))

pub run-text : (done fs : List (List ℕ)) (rest : List ℕ) → All Frame fs → read_on (between done []) (text_of fs ++ rest) ≡ read_on (between (done ++ fs) []) rest
unfolding text_of
run-text done [] rest All.nil = rw (append-nil done)
run-text done (f ∷ fs) rest (All.cons h hs) =
    ap (read_on (between done [])) (append_assoc (line f) (text_of fs) rest)
    ∙ run-line done f (text_of fs ++ rest) h
    ∙ run-text (done ++ f ∷ []) fs rest hs
    ∙ rw append_assoc
