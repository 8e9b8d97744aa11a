-- Laws of readers, for any trees and any table of tokens.
--     Sound pre r enc P   what r reads from bytes, with `pre` before them, is an encoding of a tree that has P
--     Agree k r s         r and s read the same from at most k bytes, and what they leave ends those bytes
--     ..-table            of a table, from the same of each entry
-- Assumes nothing.
use mathlib.Core.Path.{◌≡◌, refl, sym, ap, ap₂, subst, subst⁻¹, ◌∙◌}
use mathlib.Core.Bool.{Bool, true, false, ◌&&◌}
use mathlib.Core.List.{List, [], ◌∷◌, ◌++◌, append_assoc}
use Prim.Native.Nat.{ℕ, ◌+◌, ◌*◌, ◌/◌, ◌%◌, ◌≤◌, ◌<◌}
use native.Mathlib.Nat.{le_trans, le_refl, not-suc-le-zero}
use native.Mathlib.Omega.{arith}
use lib.Dec.{leb, eqb}
use lib.ListN.{length, get_or, drop, length-append}
use borrow.Author.Tests.{eqb-true, leb-true}
use Rattle.value.specs.Bag.{All}
use Rattle.value.proofs.Decides.{by-test, and_parts}
use Rattle.language.specs.Reading.{Read, Reader, done, refuse, and_then, ◌>>=◌, byte, either, byte_if, two_bytes, choose, step}
use Rattle.meaning.proofs.Elements.{all-behind}

abbrev pub Byte : ℕ → Type 0
Byte b = b < 256

-- a chain that ends well began well
pub then_ok : {A B : Type 0} (m : Read A) (f : A → Reader B) {b : B} {rest : List ℕ} → and_then m f ≡ Read.ok b rest
    → (a : A) × (mid : List ℕ) × (m ≡ Read.ok a mid) × (f a mid ≡ Read.ok b rest)
then_ok (Read.ok a mid) f e = (a, mid, refl, e)
then_ok (Read.refused n) f {b} {rest} e = let z : ◌≡◌ {A = ℕ} 0 1 = cc in absurd (omega arith)

-- and where it began with a byte, that byte passed its test
pub byte-ok : {B : Type 0} (n : ℕ) (p : ℕ → Bool) (bs : List ℕ) (k : ℕ → Reader B) {x : B} {rest : List ℕ} → (byte_if n p >>= k) bs ≡ Read.ok x rest
    → (p (get_or bs 0 0) ≡ true) × (k (get_or bs 0 0) (drop 1 bs) ≡ Read.ok x rest)
byte-ok n p [] k {x} {rest} e = let z : ◌≡◌ {A = ℕ} 0 1 = cc in absurd (omega arith)
byte-ok n p (b ∷ bs) k {x} {rest} e = by-test (p b)
    (λ t. (t, rw t at e))
    (λ t. let e' : ◌≡◌ (Read.refused n) (Read.ok x rest) = rw t at e in let z : ◌≡◌ {A = ℕ} 0 1 = cc in absurd (omega arith))

-- ---- soundness

pub record Sound {A : Type 0} (pre : List ℕ) (r : Reader A) (enc : A → List ℕ) (P : A → Type 0) : Type 0 where
  pub reads : (bs : List ℕ) (a : A) (rest : List ℕ) → All Byte bs → r bs ≡ Read.ok a rest → (pre ++ bs ≡ enc a ++ rest) × P a

pub sound-done : {A : Type 0} {pre : List ℕ} {enc : A → List ℕ} {P : A → Type 0} (v : A) → pre ≡ enc v → P v → Sound pre (done v) enc P
sound-done {P = P} v p h =
    record { reads = λ bs a rest _ e. let q : v ≡ a = cc in let s : bs ≡ rest = cc in (cc, subst P q h) }

pub sound-refuse : {A : Type 0} {pre : List ℕ} {n : ℕ} {enc : A → List ℕ} {P : A → Type 0} → Sound pre (refuse n) enc P
sound-refuse = record { reads = λ bs a rest _ e. let z : ◌≡◌ {A = ℕ} 0 1 = cc in absurd (omega arith) }

pub sound-bind : {A B : Type 0} {pre : List ℕ} {m : Reader A} {f : A → Reader B} {enc_a : A → List ℕ} {enc : B → List ℕ} {Q : A → Type 0} {P : B → Type 0}
    → Sound [] m enc_a Q → ((a : A) → Q a → Sound (pre ++ enc_a a) (f a) enc P) → Sound pre (m >>= f) enc P
sound-bind {pre = pre} {m = m} {f = f} {enc_a = enc_a} first next =
    record {
      reads = λ bs b rest all e.
          let (a, mid, p, q) = then_ok (m bs) f e in
          let h = first.reads bs a mid all p in
          let k = (next a h.1).reads mid b rest (all-behind (enc_a a) (subst (All Byte) h.0 all)) q in
          (ap (λ (l : List ℕ). pre ++ l) h.0 ∙ sym (append_assoc pre (enc_a a) mid) ∙ k.0, k.1);
    }

pub sound-either : {A : Type 0} {pre : List ℕ} {r s : Reader A} {enc : A → List ℕ} {P : A → Type 0} (t : Bool)
    → (t ≡ true → Sound pre r enc P) → (t ≡ false → Sound pre s enc P) → Sound pre (either t r s) enc P
sound-either true f g = f refl
sound-either false f g = g refl

-- one byte, and two with the high one first
abbrev pub one : ℕ → List ℕ
one b = b ∷ []

abbrev pub two : ℕ → List ℕ
two m = m / 256 ∷ m % 256 ∷ []

pub sound-byte : Sound [] byte one Byte
sound-byte = record { reads = λ bs. go bs }
  where
    go : (bs : List ℕ) (a : ℕ) (rest : List ℕ) → All Byte bs → byte bs ≡ Read.ok a rest → (bs ≡ a ∷ rest) × Byte a
    go [] a rest all e = let z : ◌≡◌ {A = ℕ} 0 1 = cc in absurd (omega arith)
    go (b ∷ bs) a rest (All.cons h all) e = let q : b ≡ a = cc in let s : bs ≡ rest = cc in (cc, subst Byte q h)

pub sound-byte_if : (n : ℕ) (p : ℕ → Bool) → Sound [] (byte_if n p) one (λ b. p b ≡ true)
sound-byte_if n p = sound-bind sound-byte (λ b _. sound-either (p b) (λ t. sound-done b refl t) (λ _. sound-refuse))

two_back : (h l : ℕ) → Byte h → Byte l → h ∷ l ∷ [] ≡ two (h * 256 + l)
two_back h l p q =
    let high : h ≡ (h * 256 + l) / 256 = omega arith in
    let low : l ≡ (h * 256 + l) % 256 = omega arith in
    ap₂ (λ (x y : ℕ). x ∷ y ∷ []) high low

pub sound-two_bytes : Sound [] two_bytes two (λ _. Unit {0})
sound-two_bytes = sound-bind sound-byte (λ h p. sound-bind sound-byte (λ l q. sound-done (h * 256 + l) (two_back h l p q) tt))

pub sound-step : Sound [] step two (λ m. (1 ≤ m) × (m ≤ 1000))
sound-step = sound-bind sound-two_bytes (λ m _. sound-either (leb 1 m && leb m 1000) (λ t. within m t) (λ _. sound-refuse))
  where
    within : (m : ℕ) → (leb 1 m && leb m 1000) ≡ true → Sound (two m) (done m) two (λ m. (1 ≤ m) × (m ≤ 1000))
    within m t =
        let p = and_parts (leb 1 m) (leb m 1000) t in
        sound-done m refl (leb-true 1 m p.0, leb-true m 1000 p.1)

-- each entry of a table
pub data SoundAll {A : Type 0} (enc : A → List ℕ) (P : A → Type 0) : List (ℕ × Reader A) → Type 0 where
  none : SoundAll enc P []
  entry : {t : ℕ} {r : Reader A} {more : List (ℕ × Reader A)} → Sound (one t) r enc P → SoundAll enc P more → SoundAll enc P ((t, r) ∷ more)

sound-choose : {A : Type 0} {enc : A → List ℕ} {P : A → Type 0} {table : List (ℕ × Reader A)} → SoundAll enc P table
    → (t : ℕ) → Sound (one t) (choose table t) enc P
sound-choose SoundAll.none t = sound-refuse
sound-choose {enc = enc} {P = P} (SoundAll.entry {t = k} {r = r} s all) t =
    sound-either (eqb t k) (λ h. subst⁻¹ (λ (j : ℕ). Sound (one j) r enc P) (eqb-true t k h) s) (λ _. sound-choose all t)

pub sound-table : {A : Type 0} {enc : A → List ℕ} {P : A → Type 0} {table : List (ℕ × Reader A)} → SoundAll enc P table
    → Sound [] (byte >>= choose table) enc P
sound-table all = sound-bind sound-byte (λ t _. sound-choose all t)

-- ---- agreement

-- from bs the same was read, and what is left ends bs
pub data Alike {A : Type 0} (bs : List ℕ) : Read A → Read A → Type 0 where
  read : {a : A} {rest : List ℕ} (used : List ℕ) → bs ≡ used ++ rest → Alike bs (Read.ok a rest) (Read.ok a rest)
  refusal : {n : ℕ} → Alike bs (Read.refused n) (Read.refused n)

pub alike_same : {A : Type 0} {bs : List ℕ} {x y : Read A} → Alike bs x y → x ≡ y
alike_same (Alike.read used e) = refl
alike_same Alike.refusal = refl

pub alike-suffix : {A : Type 0} {bs : List ℕ} {x y : Read A} {a : A} {rest : List ℕ} → Alike bs x y → y ≡ Read.ok a rest
    → (used : List ℕ) × (bs ≡ used ++ rest)
alike-suffix {rest = rest} (Alike.read {rest = left} used e) p = let q : left ≡ rest = cc in (used, e ∙ ap (λ (l : List ℕ). used ++ l) q)
alike-suffix Alike.refusal p = let z : ◌≡◌ {A = ℕ} 0 1 = cc in absurd (omega arith)

-- bytes before
alike-behind : {A : Type 0} {bs mid : List ℕ} {x y : Read A} (used : List ℕ) → bs ≡ used ++ mid → Alike mid x y → Alike bs x y
alike-behind used e (Alike.read {rest = rest} more f) =
    Alike.read (used ++ more) (e ∙ ap (λ (l : List ℕ). used ++ l) f ∙ sym (append_assoc used more rest))
alike-behind used e Alike.refusal = Alike.refusal

pub record Agree {A : Type 0} (k : ℕ) (r s : Reader A) : Type 0 where
  pub same : (bs : List ℕ) → length bs ≤ k → Alike bs (r bs) (s bs)

pub agree-done : {A : Type 0} {k : ℕ} {v : A} → Agree k (done v) (done v)
agree-done = record { same = λ bs h. Alike.read [] refl }

pub agree-refuse : {A : Type 0} {k n : ℕ} → Agree {A = A} k (refuse n) (refuse n)
agree-refuse = record { same = λ bs h. Alike.refusal }

alike_then : {A B : Type 0} {k : ℕ} {bs : List ℕ} {x y : Read A} {f g : A → Reader B} → length bs ≤ k → Alike bs x y
    → ((a : A) → Agree k (f a) (g a)) → Alike bs (and_then x f) (and_then y g)
alike_then {k = k} h (Alike.read {a = a} {rest = rest} used e) next =
    let l : length rest ≤ k = omega (arith, simp length-append at (ap length e)) in
    alike-behind used e ((next a).same rest l)
alike_then h Alike.refusal next = Alike.refusal

pub agree-bind : {A B : Type 0} {k : ℕ} {m n : Reader A} {f g : A → Reader B} → Agree k m n → ((a : A) → Agree k (f a) (g a))
    → Agree k (m >>= f) (n >>= g)
agree-bind first next = record { same = λ bs h. alike_then h (first.same bs h) next }

pub agree-either : {A : Type 0} {k : ℕ} (t : Bool) {r s r' s' : Reader A} → Agree k r r' → Agree k s s' → Agree k (either t r s) (either t r' s')
agree-either true a b = a
agree-either false a b = b

alike-byte : (bs : List ℕ) → Alike bs (byte bs) (byte bs)
alike-byte [] = Alike.refusal
alike-byte (b ∷ bs) = Alike.read (one b) refl

pub agree-byte : {k : ℕ} → Agree k byte byte
agree-byte = record { same = λ bs h. alike-byte bs }

pub agree-byte_if : {k : ℕ} (n : ℕ) (p : ℕ → Bool) → Agree k (byte_if n p) (byte_if n p)
agree-byte_if n p = agree-bind agree-byte (λ b. agree-either (p b) agree-done agree-refuse)

pub agree-two_bytes : {k : ℕ} → Agree k two_bytes two_bytes
agree-two_bytes = agree-bind agree-byte (λ h. agree-bind agree-byte (λ l. agree-done))

pub agree-step : {k : ℕ} → Agree k step step
agree-step = agree-bind agree-two_bytes (λ m. agree-either (leb 1 m && leb m 1000) agree-done agree-refuse)

-- each entry of two tables
pub data AgreeAll {A : Type 0} (k : ℕ) : List (ℕ × Reader A) → List (ℕ × Reader A) → Type 0 where
  none : AgreeAll k [] []
  entry : {t : ℕ} {r s : Reader A} {xs ys : List (ℕ × Reader A)} → Agree k r s → AgreeAll k xs ys → AgreeAll k ((t, r) ∷ xs) ((t, s) ∷ ys)

agree-choose : {A : Type 0} {k : ℕ} {xs ys : List (ℕ × Reader A)} → AgreeAll k xs ys → (t : ℕ) → Agree k (choose xs t) (choose ys t)
agree-choose AgreeAll.none t = agree-refuse
agree-choose (AgreeAll.entry {t = j} a all) t = agree-either (eqb t j) a (agree-choose all t)

alike-choose : {A : Type 0} {xs ys : List (ℕ × Reader A)} (t : ℕ) (bs : List ℕ) → AgreeAll (length bs) xs ys → Alike bs (choose xs t bs) (choose ys t bs)
alike-choose t bs all = (agree-choose all t).same bs (le_refl (length bs))

pub choose-same : {A : Type 0} {xs ys : List (ℕ × Reader A)} (t : ℕ) (bs : List ℕ) → AgreeAll (length bs) xs ys → choose xs t bs ≡ choose ys t bs
choose-same t bs all = alike_same (alike-choose t bs all)

-- a token is one byte, so what stands behind it is fewer
pub agree-table : {A : Type 0} {k : ℕ} {xs ys : List (ℕ × Reader A)} → ((j : ℕ) → j < k → AgreeAll j xs ys)
    → Agree k (byte >>= choose xs) (byte >>= choose ys)
agree-table {k = k} {xs = xs} {ys = ys} all = record { same = λ bs h. go bs h }
  where
    go : (bs : List ℕ) → length bs ≤ k → Alike bs (and_then (byte bs) (choose xs)) (and_then (byte bs) (choose ys))
    go [] h = Alike.refusal
    go (t ∷ bs) h = alike-behind (one t) refl (alike-choose t bs (all (length bs) h))

pub agree-empty : {A : Type 0} {k : ℕ} {r s : Reader A} → k ≤ 0 → Alike [] (r []) (s []) → Agree k r s
agree-empty {k = k} {r = r} {s = s} p e = record { same = λ bs h. go bs h }
  where
    go : (bs : List ℕ) → length bs ≤ k → Alike bs (r bs) (s bs)
    go [] h = e
    go (b ∷ bs) h = absurd (not-suc-le-zero (le_trans h p))

-- readers of growing depth that agree where both are deep enough: n is deep enough for n bytes
pub agree-deep : {A : Type 0} {deep : ℕ → Reader A} → ((n m k : ℕ) → k ≤ n → k ≤ m → Agree k (deep n) (deep m))
    → (n : ℕ) → Agree n (deep n) (λ bs. deep (length bs) bs)
agree-deep enough n =
    record { same = λ bs h. (enough n (length bs) (length bs) h (le_refl (length bs))).same bs (le_refl (length bs)) }

-- one reader reads one thing from the same bytes
pub read-once : {A : Type 0} (r : Reader A) {xs ys : List ℕ} {a b : A} {rest rest' : List ℕ} → r xs ≡ Read.ok a rest → r ys ≡ Read.ok b rest'
    → xs ≡ ys → (a ≡ b) × (rest ≡ rest')
read-once r p q e = (cc, cc)
