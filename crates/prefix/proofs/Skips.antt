-- From readers to where they end on a frame.
--     Level             two readers that end alike, what they read aside
--     lands             where a reader ended well, what it read, and that the next bytes start there
--     then_next         a chain goes on there; then-more, a repetition
--     then-stop         a chain refuses what its first reader refuses
-- Assumes nothing.
use mathlib.Core.Path.{◌≡◌, refl, sym, ap, ◌∙◌}
use mathlib.Core.List.{List, ◌∷◌, ◌++◌}
use Prim.Native.Nat.{ℕ, ◌+◌, ◌-◌, ◌≤◌, ◌<◌}
use native.Mathlib.Decide.{dec_le}
use native.Mathlib.Omega.{arith}
use lib.ListN.{length, drop, length-append, length-drop, drop_of_length-le}
use lib.Seq.{drop-drop, drop-append_seam}
use Rattle.language.specs.Reading.{Read, Reader, Open, done, and_then, ◌>>=◌, read_e, read_c}
use Rattle.prefix.specs.Skipped.{FormEnd, skip_of, skipped}
use Rattle.prefix.proofs.Ends.{Ends, Field, field_e, field_c}

-- ---- readers that end alike

pub record Level {A B : Type 0} (r : Reader A) (s : Reader B) : Type 0 where
  pub same : (frame bs : List ℕ) → skip_of frame (r bs) ≡ skip_of frame (s bs)

pub level-refl : {A : Type 0} {m : Reader A} → Level m m
level-refl = record { same = λ frame bs. refl }

pub level-done : {A B : Type 0} (m : Reader A) (f : A → B) → Level (m >>= λ a. done (f a)) m
level-done {A} m f = record { same = λ frame bs. go frame (m bs) }
  where
    go : (frame : List ℕ) (r : Read A) → skip_of frame (and_then r (λ a. done (f a))) ≡ skip_of frame r
    go frame (Read.ok a rest) = refl
    go frame (Read.refused n) = refl

pub level-bind : {A B C : Type 0} (m : Reader A) {f : A → Reader B} {g : A → Reader C} → ((a : A) → Level (f a) (g a)) → Level (m >>= f) (m >>= g)
level-bind {A} m {f} {g} h = record { same = λ frame bs. go frame (m bs) }
  where
    go : (frame : List ℕ) (r : Read A) → skip_of frame (and_then r f) ≡ skip_of frame (and_then r g)
    go frame (Read.ok a rest) = (h a).same frame rest
    go frame (Read.refused n) = refl

module _ (frame : List ℕ) where
  pub level-at : {A B : Type 0} {r : Reader A} {s : Reader B} (at : ℕ) → Level r s → skipped frame at r ≡ skipped frame at s
  unfolding skipped
  level-at at l = l.same frame (drop at frame)

  -- ---- positions

  pub next-is : {A : Type 0} (m : Reader A) (at n : ℕ) {a : A} → n ≤ length frame → m (drop at frame) ≡ Read.ok a (drop n frame)
      → skipped frame at m ≡ FormEnd.next n
  unfolding skipped
  next-is m at n h e = ap (skip_of frame) e ∙ ap FormEnd.next (rw length-drop (omega arith))

  pub past_end : {A : Type 0} {m : Reader A} → Field m → (at : ℕ) → length frame ≤ at → skipped frame at m ≡ FormEnd.refused 4
  unfolding skipped
  past_end {m = m} f at h = ap (λ bs. skip_of frame (m bs)) (drop_of_length-le frame h) ∙ ap (skip_of frame) f.starts

  -- the rest is the frame from where it starts
  rest-is : (at : ℕ) (used rest : List ℕ) → at ≤ length frame → drop at frame ≡ used ++ rest
      → (rest ≡ drop (length frame - length rest) frame) × (at ≤ length frame - length rest)
  rest-is at used rest h e =
      let l : length frame - at ≡ length used + length rest = sym (length-drop at frame) ∙ ap length e ∙ length-append used rest in
      let k : at + length used ≡ length frame - length rest = omega arith in
      (sym (drop-append_seam used rest) ∙ ap (drop (length used)) (sym e) ∙ drop-drop (length used) at frame ∙ ap (λ j. drop j frame) k, omega arith)

  -- ---- where a reader ended well

  pub record Landed {A : Type 0} (m : Reader A) (at n : ℕ) : Type 0 where
    pub what : A
    pub reads : m (drop at frame) ≡ Read.ok what (drop n frame)
    pub further : at ≤ n
    pub inside : n ≤ length frame

  pub lands : {A : Type 0} {m : Reader A} → Ends m → (at n : ℕ) → at ≤ length frame → skipped frame at m ≡ FormEnd.next n → Landed m at n
  unfolding skipped
  lands {A} {m = m} s at n h e = go (m (drop at frame)) refl e
    where
      go : (r : Read A) → m (drop at frame) ≡ r → skip_of frame r ≡ FormEnd.next n → Landed m at n
      go (Read.ok a rest) p q =
          let (used, b) = s.suffix (drop at frame) a rest p in
          let (x, y) = rest-is at used rest h b in
          let k : length frame - length rest ≡ n = cc in
          record { what = a; reads = p ∙ ap (Read.ok a) (x ∙ ap (λ j. drop j frame) k); further = omega arith; inside = omega arith }
      go (Read.refused k) p q = let z : ◌≡◌ {A = ℕ} 0 1 = cc in absurd (omega arith)

  -- a field that ended well began in the frame
  pub begins : {A : Type 0} {m : Reader A} → Field m → (at n : ℕ) → skipped frame at m ≡ FormEnd.next n → at < length frame
  begins f at n e = go (dec_le (length frame) at)
    where
      go : Dec (length frame ≤ at) → at < length frame
      go (yes h) = let p = past_end f at h in let z : ◌≡◌ {A = ℕ} 0 1 = cc in absurd (omega arith)
      go (no h) = omega arith

  pub field-lands : {A : Type 0} {m : Reader A} → Field m → (at n : ℕ) → skipped frame at m ≡ FormEnd.next n → Landed m at n
  field-lands f at n e = let h = begins f at n e in lands f.ends at n (omega arith) e

  pub lands_e : (o : Open) (at n : ℕ) → skipped frame at (read_e o) ≡ FormEnd.next n → Landed (read_e o) at n
  lands_e o = field-lands (field_e o)

  pub lands_c : (o : Open) (at n : ℕ) → skipped frame at (read_c o) ≡ FormEnd.next n → Landed (read_c o) at n
  lands_c o = field-lands (field_c o)

  -- ---- chains

  -- a chain goes on with what was read, from where its first reader ended
  pub landed-next : {A B : Type 0} {m : Reader A} {at n : ℕ} (l : Landed m at n) (f : A → Reader B) → skipped frame at (m >>= f) ≡ skipped frame n (f l.what)
  unfolding skipped
  landed-next l f = ap (λ x. skip_of frame (and_then x f)) l.reads

  -- a call that answered r, and then one from where it ended
  module _ {A : Type 0} {m : Reader A} (s : Field m) (at : ℕ) {n : ℕ} {r : FormEnd} (e : r ≡ skipped frame at m) (k : r ≡ FormEnd.next n) where
    pub then-further : (at ≤ n) × (n ≤ length frame)
    then-further = let l = field-lands s at n (sym e ∙ k) in (l.further, l.inside)

    pub then_next : {B C : Type 0} {f : A → Reader B} {q : Reader C} → ((a : A) → Level (f a) q) → skipped frame at (m >>= f) ≡ skipped frame n q
    then_next h = let l = field-lands s at n (sym e ∙ k) in landed-next l _ ∙ level-at n (h l.what)

    -- one of a repetition, and then more
    pub then-more : (more : Reader (List A)) → skipped frame at (m >>= λ x. more >>= λ xs. done (x ∷ xs)) ≡ skipped frame n more
    then-more more = then_next (λ x. level-done more (λ xs. x ∷ xs))

  pub then-stop : {A B : Type 0} (m : Reader A) (f : A → Reader B) (at n : ℕ) {r : FormEnd} → r ≡ skipped frame at m → r ≡ FormEnd.refused n
      → skipped frame at (m >>= f) ≡ FormEnd.refused n
  unfolding skipped
  then-stop {A} m f at n e k = go (m (drop at frame)) (sym e ∙ k)
    where
      go : (x : Read A) → skip_of frame x ≡ FormEnd.refused n → skip_of frame (and_then x f) ≡ FormEnd.refused n
      go (Read.ok a rest) q = let z : ◌≡◌ {A = ℕ} 0 1 = cc in absurd (omega arith)
      go (Read.refused k) q = q
