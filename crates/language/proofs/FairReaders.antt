-- Laws of readers for any numbers, bytes or not.
--     Fair W r P    what r reads has P, what it leaves has W, and what it refuses has a number from 4 to 6
-- Assumes nothing.
use mathlib.Core.Path.{◌≡◌, refl, ap}
use mathlib.Core.Bool.{Bool, true, false, ◌&&◌}
use mathlib.Core.List.{List, [], ◌∷◌}
use Prim.Native.Nat.{ℕ, zero, suc}
use native.Mathlib.Omega.{arith}
use lib.Dec.{leb, eqb, ltb}
use lib.ListN.{length, get_or}
use borrow.Author.Tests.{leb-true}
use Rattle.value.specs.Bag.{All}
use Rattle.value.proofs.Decides.{and_parts}
use Rattle.value.specs.Value.{Operation, Comparison, Connective}
use Rattle.meaning.specs.Syntax.{Expr, Cond}
use Rattle.meaning.specs.Bounds.{inner_e, inner_c}
use Rattle.meaning.proofs.Elements.{all_append}
use Rattle.language.specs.Reading.{Read, Reader, Open, opened_item, done, refuse, and_then, ◌>>=◌, byte, either, byte_if, choose, step, place, existing, expressions, conditions, deep_e, deep_c, read_e, read_c}
use Rattle.language.specs.Frames.{repeated, field, ending}
use Rattle.language.specs.Legal.{Limits}

-- what is read has P and leaves W; the number of a refusal is one that bytes have
pub data Good {A : Type 0} (W : List ℕ → Type 0) (P : A → Type 0) : Read A → Type 0 where
  ok : {a : A} {rest : List ℕ} → W rest → P a → Good W P (Read.ok a rest)
  refusal : {n : ℕ} → Limits 4 6 n → Good W P (Read.refused n)

pub refused-limits : {A : Type 0} {W : List ℕ → Type 0} {P : A → Type 0} {m : Read A} {n : ℕ} → Good W P m → m ≡ Read.refused n → Limits 4 6 n
refused-limits (Good.ok w p) e = let z : ◌≡◌ {A = ℕ} 0 1 = cc in absurd (omega arith)
refused-limits {n = n} (Good.refusal {n = k} l) e = let p : k ≡ n = cc in omega arith

pub record Fair {A : Type 0} (W : List ℕ → Type 0) (r : Reader A) (P : A → Type 0) : Type 0 where
  pub good : (bs : List ℕ) → Good W P (r bs)

-- anything, and nothing left
abbrev pub Anything : {A : Type 0} → A → Type 0
Anything a = Unit {0}

abbrev pub Nil : List ℕ → Type 0
Nil rest = rest ≡ []

-- the refusals of bytes
pub four : Limits 4 6 4
four = omega arith

pub five : Limits 4 6 5
five = omega arith

pub six : Limits 4 6 6
six = omega arith

pub fair-done : {A : Type 0} {P : A → Type 0} {v : A} → P v → Fair Anything (done v) P
fair-done p = record { good = λ bs. Good.ok tt p }

pub fair-refuse : {A : Type 0} {W : List ℕ → Type 0} {P : A → Type 0} {n : ℕ} → Limits 4 6 n → Fair W (refuse n) P
fair-refuse l = record { good = λ bs. Good.refusal l }

good-then : {A B : Type 0} {m : Read A} {f : A → Reader B} {W : List ℕ → Type 0} {Q : A → Type 0} {P : B → Type 0}
    → Good Anything Q m → ((a : A) → Q a → Fair W (f a) P) → Good W P (and_then m f)
good-then (Good.ok {a} {rest} w q) next = (next a q).good rest
good-then (Good.refusal l) next = Good.refusal l

pub fair-bind : {A B : Type 0} {m : Reader A} {f : A → Reader B} {W : List ℕ → Type 0} {Q : A → Type 0} {P : B → Type 0}
    → Fair Anything m Q → ((a : A) → Q a → Fair W (f a) P) → Fair W (m >>= f) P
fair-bind first next = record { good = λ bs. good-then (first.good bs) next }

good-map : {A : Type 0} {m : Read A} {W : List ℕ → Type 0} {P Q : A → Type 0} → ((a : A) → P a → Q a) → Good W P m → Good W Q m
good-map f (Good.ok {a} w p) = Good.ok w (f a p)
good-map f (Good.refusal l) = Good.refusal l

pub fair-map : {A : Type 0} {r : Reader A} {W : List ℕ → Type 0} {P Q : A → Type 0} → ((a : A) → P a → Q a) → Fair W r P → Fair W r Q
fair-map f s = record { good = λ bs. good-map f (s.good bs) }

pub fair-either : {A : Type 0} {r s : Reader A} {W : List ℕ → Type 0} {P : A → Type 0} (t : Bool)
    → (t ≡ true → Fair W r P) → (t ≡ false → Fair W s P) → Fair W (either t r s) P
fair-either true f g = f refl
fair-either false f g = g refl

good-byte : (bs : List ℕ) → Good Anything Anything (byte bs)
good-byte [] = Good.refusal four
good-byte (b ∷ bs) = Good.ok tt tt

pub fair-byte : Fair Anything byte Anything
fair-byte = record { good = good-byte }

pub fair-byte_if : {n : ℕ} (p : ℕ → Bool) → Limits 4 6 n → Fair Anything (byte_if n p) (λ b. p b ≡ true)
fair-byte_if p l = fair-bind fair-byte (λ b _. fair-either (p b) (λ t. fair-done t) (λ _. fair-refuse l))

pub limits-test : (lo hi n : ℕ) → (leb lo n && leb n hi) ≡ true → Limits lo hi n
limits-test lo hi n t =
    let p = and_parts (leb lo n) (leb n hi) t in
    record { least = leb-true lo n p.0; most = leb-true n hi p.1 }

pub fair-field : (lo hi : ℕ) → Fair Anything (field lo hi) (Limits lo hi)
fair-field lo hi =
    fair-bind fair-byte (λ b _. fair-either (leb lo b && leb b hi) (λ t. fair-done (limits-test lo hi b t)) (λ _. fair-refuse five))

good-ending : {A : Type 0} {P : A → Type 0} (v : A) → P v → (bs : List ℕ) → Good Nil P (ending v bs)
good-ending v p [] = Good.ok refl p
good-ending v p (b ∷ bs) = Good.refusal four

pub fair-ending : {A : Type 0} {P : A → Type 0} (v : A) → P v → Fair Nil (ending v) P
fair-ending v p = record { good = good-ending v p }

-- what was read is what the end answers
pub ending-ok : {A : Type 0} (x y : A) (bs : List ℕ) → ending x bs ≡ Read.ok y [] → x ≡ y
ending-ok x y [] e = cc
ending-ok x y (b ∷ bs) e = let z : ◌≡◌ {A = ℕ} 0 1 = cc in absurd (omega arith)

pub fair-times : {A : Type 0} {r : Reader A} {P : A → Type 0} → Fair Anything r P → (n : ℕ) → Fair Anything (repeated n r) (λ xs. (length xs ≡ n) × All P xs)
fair-times s zero = fair-done (refl, All.nil)
fair-times s (suc n) = fair-bind s (λ x p. fair-bind (fair-times s n) (λ xs q. fair-done (ap suc q.0, All.cons p q.1)))

-- each entry of a table
data FairAll {A : Type 0} (P : A → Type 0) : List (ℕ × Reader A) → Type 0 where
  none : FairAll P []
  entry : {t : ℕ} {r : Reader A} {more : List (ℕ × Reader A)} → Fair Anything r P → FairAll P more → FairAll P ((t, r) ∷ more)

fair-choose : {A : Type 0} {P : A → Type 0} {table : List (ℕ × Reader A)} → FairAll P table → (t : ℕ) → Fair Anything (choose table t) P
fair-choose none t = fair-refuse four
fair-choose (entry {t = k} s all) t = fair-either (eqb t k) (λ _. s) (λ _. fair-choose all t)

-- ---- expressions and conditions: the relations that they name are there

fair-pair : {A B : Type 0} {P : A → Type 0} {Q : B → Type 0} {a : Reader A} {b : Reader B} → Fair Anything a P → Fair Anything b Q
    → {C : Type 0} {R : C → Type 0} (g : A → B → C) → ((x : A) (y : B) → P x → Q y → R (g x y)) → Fair Anything (a >>= λ x. b >>= λ y. done (g x y)) R
fair-pair p q g f = fair-bind p (λ x h. fair-bind q (λ y k. fair-done (f x y h k)))

fair-step : Fair Anything step Anything
fair-step =
    fair-bind (fair-pair {Q = Anything} {b = byte} fair-byte fair-byte {C = ℕ} {R = Anything} _ (λ _ _ _ _. tt))
    (λ m _. fair-either (leb 1 m && leb m 1000) (λ _. fair-done tt) (λ _. fair-refuse five))

-- each is before relation n
abbrev pub Before : ℕ → List ℕ → Type 0
Before n is = All (λ i. ltb i n ≡ true) is

abbrev pub FairE : Open → Reader Expr → Type 0
FairE o e = Fair Anything e (λ x. Before (length o.relations) (inner_e x))

abbrev pub FairC : Open → Reader Cond → Type 0
FairC o c = Fair Anything c (λ x. Before (length o.relations) (inner_c x))

module _ (o : Open) where
  abbrev E : Expr → Type 0
  E x = Before (length o.relations) (inner_e x)

  abbrev C : Cond → Type 0
  C x = Before (length o.relations) (inner_c x)

  fair-place : FairE o (place o.widths)
  fair-place = fair-bind (fair-byte_if (λ i. ltb i (length o.widths)) six) (λ i _.
      fair-bind (fair-byte_if (λ c. ltb c (get_or o.widths i 0)) six) (λ c _. fair-done All.nil))

  module _ {e : Reader Expr} (fe : FairE o e) where
    fair-operation : (op : Operation) → FairE o (e >>= λ a. e >>= λ b. done (Expr.operation op a b))
    fair-operation op = fair-pair fe fe _ (λ a b p q. all_append p q)

    fair-comparison : (op : Comparison) → FairC o (e >>= λ a. e >>= λ b. done (Cond.comparison op a b))
    fair-comparison op = fair-pair fe fe _ (λ a b p q. all_append p q)

    fair-expressions : {c : Reader Cond} → FairC o c → FairAll E (expressions o e c)
    fair-expressions fc =
        entry (fair-pair fair-byte fair-byte _ (λ h l _ _. All.nil))
        (entry fair-place
        (entry (fair-operation Operation.sum)
        (entry (fair-operation Operation.difference)
        (entry (fair-operation Operation.product)
        (entry (fair-pair fair-step fe _ (λ m a _ p. p))
        (entry (fair-bind fc (λ t h. fair-pair fe fe _ (λ a b p q. all_append h (all_append p q))))
        (entry (fair-bind (fair-byte_if (λ n. leb n 3) five) (λ n _. fair-bind fe (λ a p. fair-done p)))
        none)))))))

  module _ {c : Open → Reader Cond} (fc : (o : Open) → FairC o (c o)) where
    fair-connection : (op : Connective) → FairC o (c o >>= λ s. c o >>= λ t. done (Cond.connection op s t))
    fair-connection op = fair-pair (fc o) (fc o) _ (λ s t p q. all_append p q)

    fair-existing : FairC o (existing o c)
    fair-existing = fair-either (ltb (length o.widths) 6)
        (λ _. fair-bind (fair-byte_if (λ i. ltb i (length o.relations)) six) (λ i h.
        fair-bind (fc (opened_item o i)) (λ t k. fair-done (All.cons h k))))
        (λ _. fair-refuse five)

    fair-conditions : {e : Reader Expr} → FairE o e → FairAll C (conditions o e c)
    fair-conditions fe =
        entry (fair-done All.nil)
        (entry (fair-comparison fe Comparison.equal)
        (entry (fair-comparison fe Comparison.less)
        (entry (fair-comparison fe Comparison.less_equal)
        (entry (fair-bind (fc o) (λ t p. fair-done p))
        (entry (fair-connection Connective.conjunction)
        (entry (fair-connection Connective.disjunction)
        (entry fair-existing
        none)))))))

mutual
  unfolding deep_e

  deep-fair_e : (o : Open) (n : ℕ) → FairE o (deep_e o n)
  deep-fair_e o zero = fair-refuse four
  deep-fair_e o (suc n) = fair-bind fair-byte (λ t _. fair-choose (fair-expressions o (deep-fair_e o n) (deep-fair_c o n)) t)

  deep-fair_c : (o : Open) (n : ℕ) → FairC o (deep_c o n)
  deep-fair_c o zero = fair-refuse four
  deep-fair_c o (suc n) = fair-bind fair-byte (λ t _. fair-choose (fair-conditions o (λ p. deep-fair_c p n) (deep-fair_e o n)) t)

module _ (o : Open) where
  pub fair_e : FairE o (read_e o)
  unfolding read_e
  fair_e = record { good = λ bs. (deep-fair_e o (length bs)).good bs }

  pub fair_c : FairC o (read_c o)
  unfolding read_c
  fair_c = record { good = λ bs. (deep-fair_c o (length bs)).good bs }
