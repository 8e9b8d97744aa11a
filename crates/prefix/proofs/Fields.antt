-- What each field of a frame comes to.
--     if-next, if-passed     behind one byte that passed its test
--     two-next               behind two bytes
-- Assumes nothing.
use mathlib.Core.Path.{◌≡◌, refl, sym, ap, ◌∙◌}
use mathlib.Core.Bool.{Bool, true, false, ◌&&◌}
use mathlib.Core.List.{List}
use Prim.Native.Nat.{ℕ, ◌+◌, ◌*◌, ◌≤◌, ◌<◌}
use native.Mathlib.Decide.{dec_le}
use native.Mathlib.Omega.{arith}
use lib.Dec.{ltb, leb}
use lib.ListN.{length, get_or, drop, drop_of_length-le}
use Rattle.value.proofs.Decides.{by-test}
use Rattle.value.proofs.Places.{from_byte}
use Rattle.text.specs.Refusals.{number_of}
use Rattle.text.specs.declared.refusal.Reason.{Reason}
use Rattle.text.specs.declared.refusal.Reason.TheVariants.{Form}
use Rattle.meaning.specs.Syntax.{Expr}
use Rattle.language.specs.Reading.{Read, Reader, done, refuse, ◌>>=◌, either, byte_if, two_bytes, step, place}
use Rattle.prefix.specs.Skipped.{FormEnd, skipped}
use Rattle.prefix.proofs.Ends.{field-if, field-two}
use Rattle.prefix.proofs.Skips.{level-done, level-at, next-is, begins, then-stop}

-- a frame that is too short, where reasons have their own numbers
pub form-is-4 : (r : Reason) → r ≡ Form → number_of r ≡ 4
form-is-4 r e = ap number_of e

-- ---- one byte

module _ (frame : List ℕ) (at : ℕ) where
  -- the test counts only at the byte that stands there
  pub if_here : (k : ℕ) (p : ℕ → Bool) → skipped frame at (byte_if k (λ _. p (get_or frame at 0))) ≡ skipped frame at (byte_if k p)
  unfolding skipped
  if_here k p = go (dec_le (length frame) at)
    where
      go : Dec (length frame ≤ at) → skipped frame at (byte_if k (λ _. p (get_or frame at 0))) ≡ skipped frame at (byte_if k p)
      go (yes h) = rw (drop_of_length-le frame h)
      go (no h) = let lt : at < length frame = omega arith in rw (from_byte frame at lt)

  -- a test that was made beforehand
  pub if-tested : (k : ℕ) (p : ℕ → Bool) {j : ℕ} {t : Bool} {r : FormEnd} → t ≡ p (get_or frame at 0) → r ≡ skipped frame at (byte_if j (λ _. t)) → j ≡ k
      → r ≡ skipped frame at (byte_if k p)
  if-tested k p e h q = h ∙ rw (q, e) (if_here k p)

  module _ (lt : at < length frame) (k : ℕ) (p : ℕ → Bool) where
    if-reads : p (get_or frame at 0) ≡ true → byte_if k p (drop at frame) ≡ Read.ok (get_or frame at 0) (drop (at + 1) frame)
    if-reads t = rw (from_byte frame at lt, t)

    pub if-in : p (get_or frame at 0) ≡ true → skipped frame at (byte_if k p) ≡ FormEnd.next (at + 1)
    if-in t = next-is frame (byte_if k p) at (at + 1) (omega arith) (if-reads t)

    pub if-over : p (get_or frame at 0) ≡ false → skipped frame at (byte_if k p) ≡ FormEnd.refused k
    unfolding skipped
    if-over t = rw (from_byte frame at lt, t)

  module _ (k : ℕ) (p : ℕ → Bool) {n : ℕ} {r : FormEnd} (e : r ≡ skipped frame at (byte_if k p)) (h : r ≡ FormEnd.next n) where
    if-begins : at < length frame
    if-begins = begins frame (field-if k p) at n (sym e ∙ h)

    pub if-passed : (p (get_or frame at 0) ≡ true) × (n ≡ at + 1)
    if-passed =
        by-test (p (get_or frame at 0))
        (λ t. let s = if-in if-begins k p t in (t, cc))
        (λ t. let s = if-over if-begins k p t in let z : ◌≡◌ {A = ℕ} 0 1 = cc in absurd (omega arith))

    pub if-next : {B : Type 0} (f : ℕ → Reader B) → skipped frame at (byte_if k p >>= f) ≡ skipped frame n (f (get_or frame at 0))
    unfolding skipped
    if-next f = let (t, q) = if-passed in rw (if-reads if-begins k p t, q)

-- ---- two bytes, and a step

abbrev pub word : List ℕ → ℕ → ℕ
word frame at = get_or frame at 0 * 256 + get_or frame (at + 1) 0

module _ (frame : List ℕ) (at : ℕ) where
  two-reads : at + 1 < length frame → two_bytes (drop at frame) ≡ Read.ok (word frame at) (drop (at + 2) frame)
  two-reads lt =
      let h : at < length frame = omega arith in
      let k : at + 1 + 1 ≡ at + 2 = omega arith in
      rw (from_byte frame at h, from_byte frame (at + 1) lt, k)

  pub two_in : at + 1 < length frame → skipped frame at two_bytes ≡ FormEnd.next (at + 2)
  two_in lt = next-is frame two_bytes at (at + 2) (omega arith) (two-reads lt)

  pub two-over : at < length frame → length frame ≤ at + 1 → skipped frame at two_bytes ≡ FormEnd.refused 4
  unfolding skipped
  two-over lt h = rw (from_byte frame at lt, drop_of_length-le frame h)

  module _ {n : ℕ} {r : FormEnd} (e : r ≡ skipped frame at two_bytes) (h : r ≡ FormEnd.next n) where
    pub two-passed : (at + 1 < length frame) × (n ≡ at + 2)
    two-passed = go (dec_le (length frame) (at + 1))
      where
        go : Dec (length frame ≤ at + 1) → (at + 1 < length frame) × (n ≡ at + 2)
        go (yes l) =
            let s = two-over (begins frame field-two at n (sym e ∙ h)) l in
            let z : ◌≡◌ {A = ℕ} 0 1 = cc in absurd (omega arith)
        go (no l) = let lt : at + 1 < length frame = omega arith in let s = two_in lt in (lt, cc)

    pub two-next : {B : Type 0} (f : ℕ → Reader B) → skipped frame at (two_bytes >>= f) ≡ skipped frame n (f (word frame at))
    unfolding skipped
    two-next f = let (lt, q) = two-passed in rw (two-reads lt, q)

    pub step_in : (leb 1 (word frame at) && leb (word frame at) 1000) ≡ true → skipped frame at step ≡ FormEnd.next n
    step_in t =
        let (lt, q) = two-passed in
        let l : n ≤ length frame = omega arith in
        two-next (λ m. either (leb 1 m && leb m 1000) (done m) (refuse 5)) ∙ rw t (next-is frame (done (word frame at)) n n l refl)

    pub step-over : (leb 1 (word frame at) && leb (word frame at) 1000) ≡ false → skipped frame at step ≡ FormEnd.refused 5
    unfolding skipped
    step-over t = two-next (λ m. either (leb 1 m && leb m 1000) (done m) (refuse 5)) ∙ rw t

-- ---- a from item and its column

module _ (frame : List ℕ) (at : ℕ) (cols : List ℕ) {t : Bool} {r : FormEnd} (p : t ≡ ltb (get_or frame at 0) (length cols))
    (e : r ≡ skipped frame at (byte_if 6 (λ _. t))) where
  item : r ≡ skipped frame at (byte_if 6 (λ i. ltb i (length cols)))
  item = if-tested frame at 6 (λ i. ltb i (length cols)) p e refl

  pub place-next : {n c : ℕ} → r ≡ FormEnd.next n → c ≡ get_or cols (get_or frame at 0) 0 → skipped frame at (place cols) ≡ skipped frame n (byte_if 6 (λ b. ltb b c))
  place-next {n} h q =
      if-next frame at 6 (λ i. ltb i (length cols)) item h (λ i. byte_if 6 (λ b. ltb b (get_or cols i 0)) >>= λ b. done (Expr.column i b))
      ∙ level-at frame n (level-done (byte_if 6 (λ b. ltb b (get_or cols (get_or frame at 0) 0))) (Expr.column (get_or frame at 0)))
      ∙ ap (λ j. skipped frame n (byte_if 6 (λ b. ltb b j))) (sym q)

  pub place-stop : {n : ℕ} → r ≡ FormEnd.refused n → skipped frame at (place cols) ≡ FormEnd.refused n
  place-stop {n} h = then-stop frame (byte_if 6 (λ i. ltb i (length cols))) _ at n item h
