-- Readers that leave the end of their bytes.
--     Ends m     what m leaves ends the bytes
--     Field m    that, and m refuses 4 where there are no bytes
-- Assumes nothing.
use mathlib.Core.Path.{◌≡◌, refl, sym, ap, ◌∙◌}
use mathlib.Core.Bool.{Bool, true, false, ◌&&◌}
use mathlib.Core.List.{List, [], ◌∷◌, ◌++◌, append_assoc}
use Prim.Native.Nat.{ℕ}
use native.Mathlib.Nat.{le_refl}
use lib.Dec.{ltb, leb}
use lib.ListN.{length, get_or}
use Rattle.meaning.specs.Syntax.{Expr}
use Rattle.language.specs.Reading.{Read, Reader, Open, done, refuse, and_then, ◌>>=◌, byte, either, byte_if, two_bytes, step, place, read_e, read_c}
use Rattle.language.proofs.Readers.{then_ok, alike-suffix, Agree, agree-done, agree-refuse, agree-byte}
use Rattle.language.proofs.PrefixForms.{suffix_e, suffix_c, read_e-nil, read_c-nil}

pub record Ends {A : Type 0} (m : Reader A) : Type 0 where
  pub suffix : (bs : List ℕ) (a : A) (rest : List ℕ) → m bs ≡ Read.ok a rest → (used : List ℕ) × (bs ≡ used ++ rest)

pub record Field {A : Type 0} (m : Reader A) : Type 0 where
  pub ends : Ends m
  pub starts : m [] ≡ Read.refused 4

-- ---- what leaves the end

ends-agree : {A : Type 0} {m : Reader A} → ((k : ℕ) → Agree k m m) → Ends m
ends-agree h = record { suffix = λ bs a rest. alike-suffix ((h (length bs)).same bs (le_refl (length bs))) }

pub ends-done : {A : Type 0} (a : A) → Ends (done a)
ends-done a = ends-agree (λ k. agree-done)

pub ends-refuse : {A : Type 0} (n : ℕ) → Ends {A = A} (refuse n)
ends-refuse n = ends-agree (λ k. agree-refuse)

pub ends-byte : Ends byte
ends-byte = ends-agree (λ k. agree-byte)

pub ends-bind : {A B : Type 0} {m : Reader A} {f : A → Reader B} → Ends m → ((a : A) → Ends (f a)) → Ends (m >>= f)
ends-bind {m = m} {f = f} first next =
    record {
      suffix = λ bs b rest e.
          let (a, mid, p, q) = then_ok (m bs) f e in
          let (u, x) = first.suffix bs a mid p in
          let (v, y) = (next a).suffix mid b rest q in
          (u ++ v, x ∙ ap (λ (l : List ℕ). u ++ l) y ∙ sym (append_assoc u v rest));
    }

pub ends-either : {A : Type 0} (t : Bool) {r s : Reader A} → Ends r → Ends s → Ends (either t r s)
ends-either true x y = x
ends-either false x y = y

-- one and then more of the same, as in a repetition
pub ends_more : {A : Type 0} {m : Reader A} {more : Reader (List A)} → Ends m → Ends more → Ends (m >>= λ x. more >>= λ xs. done (x ∷ xs))
ends_more e h = ends-bind e (λ x. ends-bind h (λ xs. ends-done (x ∷ xs)))

-- ---- fields

pub field-bind : {A B : Type 0} {m : Reader A} {f : A → Reader B} → Field m → ((a : A) → Ends (f a)) → Field (m >>= f)
field-bind {f = f} x h = record { ends = ends-bind x.ends h; starts = ap (λ r. and_then r f) x.starts }

pub field-byte : Field byte
field-byte = record { ends = ends-byte; starts = refl }

pub field-if : (n : ℕ) (p : ℕ → Bool) → Field (byte_if n p)
field-if n p = field-bind field-byte (λ b. ends-either (p b) (ends-done b) (ends-refuse n))

pub field-two : Field two_bytes
field-two = field-bind field-byte (λ h. ends-bind ends-byte (λ l. ends-done _))

pub field_step : Field step
field_step = field-bind field-two (λ m. ends-either (leb 1 m && leb m 1000) (ends-done m) (ends-refuse 5))

pub field-place : (cols : List ℕ) → Field (place cols)
field-place cols =
    field-bind (field-if 6 (λ i. ltb i (length cols))) (λ i. ends-bind (field-if 6 (λ c. ltb c (get_or cols i 0))).ends (λ c. ends-done (Expr.column i c)))

pub field_e : (o : Open) → Field (read_e o)
field_e o = record { ends = record { suffix = suffix_e o }; starts = read_e-nil o }

pub field_c : (o : Open) → Field (read_c o)
field_c o = record { ends = record { suffix = suffix_c o }; starts = read_c-nil o }
