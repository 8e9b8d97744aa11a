-- Readers of a fixed number of bytes, put together from their parts, and the fault of a repetition. Assumes nothing.
use mathlib.Core.Path.{◌≡◌, refl, sym, ap, subst, ◌∙◌}
use mathlib.Core.Bool.{Bool, true, false}
use mathlib.Core.List.{List, [], ◌∷◌}
use Prim.Native.Nat.{ℕ, zero, suc, ◌+◌, ◌*◌, ◌-◌, ◌≤◌, ◌<◌}
use native.Mathlib.Omega.{arith}
use lib.ListN.{drop}
use lib.Seq.{drop-drop}
use lib.Signed.{le_z}
use Rattle.value.specs.Integer.{bytes_z}
use Rattle.language.specs.Reading.{Read, Reader, done, refuse, and_then, ◌>>=◌, byte, byte_if, either}
use Rattle.language.proofs.Readers.{then_ok}
use Rattle.language.specs.Frames.{repeated, column_field, pair_field}
use Rattle.checker.specs.Faults.{fault_of, fault_at, first, under}
use Rattle.checker.proofs.FieldLaws.{Sized, sized-then, first-none, first_some}

-- ---- the parts

-- a chain that is refused is refused by its first part or by what follows
then-refused : {A B : Type 0} {P : Type 0} (m : Read A) (f : A → Reader B) (n : ℕ) → and_then m f ≡ Read.refused n
    → (m ≡ Read.refused n → P) → ((a : A) (mid : List ℕ) → f a mid ≡ Read.refused n → P) → P
then-refused (Read.ok a mid) f n e here there = there a mid e
then-refused (Read.refused k) f n e here there = let y : k ≡ n = cc in here (ap Read.refused y)

pub sized-done : {A : Type 0} (v : A) → Sized 0 (done v)
sized-done v =
    record {
      rest = λ bs x left e. cc;
      number = λ bs n e z. let y : ◌≡◌ {A = ℕ} 0 1 = cc in omega arith;
    }

pub sized-refuse : {A : Type 0} {size : ℕ} (n : ℕ) → (n ≡ 0 → ⊥) → Sized {A = A} size (refuse n)
sized-refuse n h =
    record {
      rest = λ bs x left e. let y : ◌≡◌ {A = ℕ} 0 1 = cc in absurd (omega arith);
      number = λ bs m e z. let y : n ≡ m = cc in h (y ∙ z);
    }

pub sized-either : {A : Type 0} {size : ℕ} {r s : Reader A} (t : Bool) → Sized size r → Sized size s → Sized size (either t r s)
sized-either true f g = f
sized-either false f g = g

pub sized-byte : Sized 1 byte
sized-byte = record { rest = λ bs. go bs; number = λ bs. wrong bs }
  where
    go : (bs : List ℕ) (x : ℕ) (left : List ℕ) → byte bs ≡ Read.ok x left → left ≡ drop 1 bs
    go [] x left e = let y : ◌≡◌ {A = ℕ} 0 1 = cc in absurd (omega arith)
    go (b ∷ bs) x left e = cc

    wrong : (bs : List ℕ) (n : ℕ) → byte bs ≡ Read.refused n → n ≡ 0 → ⊥
    wrong [] n e z = let y : ◌≡◌ {A = ℕ} 4 0 = cc in omega arith
    wrong (b ∷ bs) n e z = let y : ◌≡◌ {A = ℕ} 0 1 = cc in omega arith

pub sized-bind : {A B : Type 0} {a b : ℕ} {m : Reader A} {f : A → Reader B} → Sized a m → ((x : A) → Sized b (f x)) → Sized (a + b) (m >>= f)
sized-bind {a = a} {b = b} {m = m} {f = f} s t =
    record {
      rest = λ bs y left e.
          let (x, mid, p, q) = then_ok (m bs) f e in
          (t x).rest mid y left q ∙ ap (drop b) (s.rest bs x mid p) ∙ drop-drop b a bs;
      number = λ bs n e. then-refused (m bs) f n e (λ p. s.number bs n p) (λ x mid q. (t x).number mid n q);
    }

pub sized-byte_if : (n : ℕ) (p : ℕ → Bool) → (n ≡ 0 → ⊥) → Sized 1 (byte_if n p)
sized-byte_if n p h = sized-bind sized-byte (λ b. sized-either (p b) (sized-done b) (sized-refuse n h))

-- ---- repetitions

module _ {A : Type 0} {size : ℕ} {r : Reader A} (s : Sized size r) where
  pub sized-times : (n : ℕ) → Sized (n * size) (repeated n r)
  sized-times zero = let e : 0 ≡ 0 * size = omega arith in subst (λ k. Sized k (repeated 0 r)) e (sized-done [])
  sized-times (suc n) =
      let e : size + (n * size + 0) ≡ suc n * size = omega arith in
      subst (λ k. Sized k (repeated (suc n) r)) e (sized-bind s (λ x. sized-bind (sized-times n) (λ xs. sized-done (x ∷ xs))))

  module _ (frame : List ℕ) (at : ℕ) where
    -- one and then the others
    pub times-suc : (n : ℕ) → fault_at frame at (repeated (suc n) r) ≡ first (fault_at frame at r) (fault_at frame (at + size) (repeated n r))
    unfolding fault_at
    times-suc n = sized-then s frame at _ _ (λ x. same x (repeated n r (drop (at + size) frame)))
      where
        same : (x : A) (m : Read (List A)) → fault_of (and_then m (λ xs. done (x ∷ xs))) ≡ fault_of m
        same x (Read.ok xs rest) = refl
        same x (Read.refused k) = refl

    times_more : (n : ℕ) → 0 < n → fault_at frame at (repeated n r) ≡ first (fault_at frame at r) (fault_at frame (at + size) (repeated (n - 1) r))
    times_more zero h = absurd (omega arith)
    times_more (suc n) h =
        let e : n ≡ suc n - 1 = omega arith in
        times-suc n ∙ ap (λ k. first (fault_at frame at r) (fault_at frame (at + size) (repeated k r))) e

    -- a turn that finds a fault, and one that finds none
    pub times-stop : (n found : ℕ) → 0 < n → found ≡ fault_at frame at r → (found ≡ 0 → ⊥) → fault_at frame at (repeated n r) ≡ found
    times-stop n found h e f = times_more n h ∙ first_some _ _ (λ z. f (e ∙ z)) ∙ sym e

    pub times-go : (n found : ℕ) → 0 < n → found ≡ fault_at frame at r → found ≡ 0
        → fault_at frame at (repeated n r) ≡ fault_at frame (at + size) (repeated (n - 1) r)
    times-go n found h e z = times_more n h ∙ ap (λ k. first k (fault_at frame (at + size) (repeated (n - 1) r))) (sym e ∙ z) ∙ first-none _

    pub times-end : (n : ℕ) → n ≤ 0 → fault_at frame at (repeated n r) ≡ 0
    unfolding fault_at
    times-end zero h = refl
    times-end (suc n) h = absurd (omega arith)

-- ---- the parts of tables and foreign keys

pub sized-column : Sized 4 column_field
sized-column = sized-bind sized-byte (λ a. sized-bind sized-byte (λ b. sized-bind sized-byte (λ c. sized-bind sized-byte (λ d.
    sized-either (le_z (bytes_z a b) (bytes_z c d)) (sized-done (record { lo = bytes_z a b; hi = bytes_z c d })) (sized-refuse 5 (λ e. omega arith))))))

pub sized-pair : (c p : ℕ) → Sized 2 (pair_field c p)
sized-pair c p =
    sized-bind (sized-byte_if 6 (under c) (λ e. omega arith)) (λ i.
    sized-bind (sized-byte_if 6 (under p) (λ e. omega arith)) (λ j. sized-done (record { child = i; parent = j })))
