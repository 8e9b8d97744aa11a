-- Decimal figures, one behind the others. Assumes nothing.
use mathlib.Core.Path.{◌≡◌, refl, sym, ap, ap₂, ◌∙◌}
use mathlib.Core.Bool.{cond}
use mathlib.Core.List.{List, [], ◌∷◌, ◌++◌, append_assoc}
use Prim.Native.Nat.{ℕ, zero, suc, ◌+◌, ◌/◌, ◌%◌, ◌^◌, ◌≤◌, ◌<◌}
use native.Mathlib.Omega.{arith}
use borrow.Author.Tests.{lt-ltb, le-ltb, ltb-true, ltb-false, eqb-true, ne_eqb}
use lib.Dec.{ltb, eqb}
use lib.ListN.{length, length-append}
use Rattle.value.proofs.Decides.{by-test}
use Rattle.sentences.specs.Sentence.{figures_of, figures}

-- so many figures at most
pub few-figures : (k n : ℕ) → length (figures_of k n) ≤ k
unfolding figures_of
few-figures zero n = omega arith
few-figures (suc k) n =
    by-test (ltb n 10) (λ t. rw t (omega arith))
    (λ t. rw t (omega (arith, few-figures k (n / 10), length-append (figures_of k (n / 10)) ((n % 10 + 48) ∷ []))))

-- where they are enough, room for more changes nothing
enough : (k n : ℕ) → n < 10 ^ suc k → figures_of (suc k) n ≡ figures_of (suc (suc k)) n
unfolding figures_of
enough zero n h = let z : n < 10 = omega arith in rw (lt-ltb n 10 z) refl
enough (suc k) n h =
    by-test (ltb n 10) (λ t. rw t refl)
    (λ t. rw t (ap (λ (l : List ℕ). l ++ (n % 10 + 48) ∷ []) (enough k (n / 10) (omega arith))))

pub one-figure : (n : ℕ) → n < 10 → figures n ≡ (n + 48) ∷ []
unfolding figures_of
one-figure n h = rw (lt-ltb n 10 h) refl

pub more-figures : (n : ℕ) → 10 ≤ n → n < 100000 → figures n ≡ figures (n / 10) ++ (n % 10 + 48) ∷ []
unfolding figures_of
more-figures n h l = rw (le-ltb n 10 h) (ap (λ (s : List ℕ). s ++ (n % 10 + 48) ∷ []) (enough 3 (n / 10) (omega arith)))

-- their number
pub one-long : (n : ℕ) → n < 10 → length (figures n) ≡ 1
one-long n h = ap length (one-figure n h)

pub more-long : (n : ℕ) → 10 ≤ n → n < 100000 → length (figures n) ≡ length (figures (n / 10)) + 1
more-long n h l = ap length (more-figures n h l) ∙ length-append (figures (n / 10)) ((n % 10 + 48) ∷ [])

-- ---- the figures, first to last

-- the last figure of a number's front; an empty front, 0, has none
abbrev pub last_of : ℕ → List ℕ
last_of n = cond (eqb n 0) [] ((n % 10 + 48) ∷ [])

abbrev all_of : ℕ → List ℕ
all_of n = cond (eqb n 0) [] (figures n)

last-behind : (n : ℕ) → n < 100000 → figures n ≡ all_of (n / 10) ++ (n % 10 + 48) ∷ []
last-behind n h =
    by-test (ltb n 10)
    (λ t.
    let k : n < 10 = ltb-true n 10 t in
    let z : n / 10 ≡ 0 = omega arith in
    let m : n % 10 ≡ n = omega arith in
    rw (z, m) (one-figure n k))
    (λ t.
    let k : 10 ≤ n = ltb-false n 10 t in
    rw (ne_eqb (n / 10) 0 (λ e. omega arith)) (more-figures n k h))

front-behind : (n : ℕ) → n < 100000 → all_of n ≡ all_of (n / 10) ++ last_of n
front-behind n h =
    by-test (eqb n 0)
    (λ e. rw (eqb-true n 0 e) refl)
    (λ e. rw e (last-behind n h))

-- l is the last
pub by-place : (n l : ℕ) → n < 100000 → l ≡ n % 10 + 48
    → figures n ≡ (((last_of (n / 10000) ++ last_of (n / 1000)) ++ last_of (n / 100)) ++ last_of (n / 10)) ++ l ∷ []
by-place n l h e =
    let a : n / 10 / 10 ≡ n / 100 = omega arith in
    let b : n / 100 / 10 ≡ n / 1000 = omega arith in
    let c : n / 1000 / 10 ≡ n / 10000 = omega arith in
    let d : n / 10000 / 10 ≡ 0 = omega arith in
    let one : all_of (n / 10000) ≡ last_of (n / 10000) = front-behind (n / 10000) (omega arith) ∙ ap (λ k. all_of k ++ last_of (n / 10000)) d in
    let two = front-behind (n / 1000) (omega arith) ∙ ap (λ k. all_of k ++ last_of (n / 1000)) c ∙ ap (λ l. l ++ last_of (n / 1000)) one in
    let three = front-behind (n / 100) (omega arith) ∙ ap (λ k. all_of k ++ last_of (n / 100)) b ∙ ap (λ l. l ++ last_of (n / 100)) two in
    let four = front-behind (n / 10) (omega arith) ∙ ap (λ k. all_of k ++ last_of (n / 10)) a ∙ ap (λ l. l ++ last_of (n / 10)) three in
    last-behind n h ∙ ap₂ (λ x k. x ++ k ∷ []) four (sym e)

-- their lengths
pub long-by-place : (n : ℕ) → n < 100000
    → length (figures n) ≡ length (last_of (n / 10000)) + length (last_of (n / 1000)) + length (last_of (n / 100)) + length (last_of (n / 10)) + 1
long-by-place n h =
    let p = last_of (n / 10000) in
    let q = last_of (n / 1000) in
    let r = last_of (n / 100) in
    let s = last_of (n / 10) in
    omega (
      arith,
      ap length (by-place n (n % 10 + 48) h refl),
      length-append (((p ++ q) ++ r) ++ s) ((n % 10 + 48) ∷ []),
      length-append ((p ++ q) ++ r) s,
      length-append (p ++ q) r,
      length-append p q,
    )

-- one text behind another
pub behind : {t s : List ℕ} (u p l : List ℕ) → t ≡ s ++ l → s ≡ u ++ p → t ≡ u ++ (p ++ l)
behind u p l e f = e ∙ ap (λ x. x ++ l) f ∙ append_assoc u p l
