-- Tests and what they decide. Assumes nothing.
use mathlib.Core.Path.{◌≡◌, refl, sym}
use mathlib.Core.Logic.{◌⊎◌, inl, inr, ⊎_elim}
use mathlib.Core.Bool.{Bool, true, false, not, ◌&&◌, ◌||◌, true≢false}
use Prim.Native.Nat.{ℕ}
use lib.Dec.{T, eqb, eqb→eq, eqb_refl, T_not, not_T}
use Rattle.value.specs.Bag.{Test}

pub true-T : (b : Bool) → b ≡ true → T b
true-T true e = tt
true-T false e = absurd (true≢false (sym e))

pub T_true : (b : Bool) → T b → b ≡ true
T_true true t = refl
T_true false t = absurd t

pub T_false : (b : Bool) → ¬ (T b) → b ≡ false
T_false true f = absurd (f tt)
T_false false f = refl

-- the two cases of a computed test, with the equation
pub by-test {ℓ} : (b : Bool) {P : Type ℓ} → (b ≡ true → P) → (b ≡ false → P) → P
by-test true y n = y refl
by-test false y n = n refl

-- two tests that hold together are one
pub test-eq : (s t : Bool) → (s ≡ true → t ≡ true) → (t ≡ true → s ≡ true) → s ≡ t
test-eq true true f g = refl
test-eq true false f g = sym (f refl)
test-eq false true f g = g refl
test-eq false false f g = refl

pub and_parts : (a b : Bool) → (a && b) ≡ true → (a ≡ true) × (b ≡ true)
and_parts true true e = (refl, refl)
and_parts true false e = absurd (true≢false (sym e))
and_parts false b e = absurd (true≢false (sym e))

pub and_both : {a b : Bool} → a ≡ true → b ≡ true → (a && b) ≡ true
and_both p q = rw (p, q)

pub and-cross : (a b c d : Bool) → ((a && b) && (c && d)) ≡ ((a && c) && (b && d))
and-cross true true c d = refl
and-cross true false true d = refl
and-cross true false false d = refl
and-cross false b c d = refl

-- the test b decides P. A record, so that b and P can be inferred from a hypothesis
pub record Decides (b : Bool) (P : Type 0) : Type 0 where
  pub sound : T b → P
  pub complete : P → T b

module _ {P Q : Type 0} where
  pub and-dec : {a b : Bool} → Decides a P → Decides b Q → Decides (a && b) (P × Q)
  and-dec {a = true} {b = true} f g = record { sound = λ t. (f.sound tt, g.sound tt); complete = λ x. tt }
  and-dec {a = true} {b = false} f g = record { sound = λ t. absurd t; complete = λ x. g.complete x.1 }
  and-dec {a = false} f g = record { sound = λ t. absurd t; complete = λ x. f.complete x.0 }

  pub or-dec : {a b : Bool} → Decides a P → Decides b Q → Decides (a || b) (P ⊎ Q)
  or-dec {a = true} f g = record { sound = λ t. inl (f.sound tt); complete = λ x. tt }
  or-dec {a = false} f g = record { sound = λ t. inr (g.sound t); complete = ⊎_elim (λ p. absurd (f.complete p)) (λ q. g.complete q) }

  pub imp-dec : {a b : Bool} → Decides a P → Decides b Q → Decides (not a || b) (P → Q)
  imp-dec {a = true} f g = record { sound = λ t p. g.sound t; complete = λ h. g.complete (h (f.sound tt)) }
  imp-dec {a = false} f g = record { sound = λ t p. absurd (f.complete p); complete = λ h. tt }

  -- the same fact in other words
  pub by-dec : {b : Bool} → (P → Q) → (Q → P) → Decides b P → Decides b Q
  by-dec f g h = record { sound = λ t. f (h.sound t); complete = λ q. h.complete (g q) }

module _ {P : Type 0} where
  pub not-dec : {a : Bool} → Decides a P → Decides (not a) (¬ P)
  not-dec {a} f = record { sound = λ t p. T_not a t (f.complete p); complete = λ h. not_T a (λ t. h (f.sound t)) }

  -- what a decided test says as an equation
  pub dec-true : {b : Bool} → Decides b P → b ≡ true → P
  dec-true {b} d e = d.sound (true-T b e)

  pub true-dec : {b : Bool} → Decides b P → P → b ≡ true
  true-dec {b} d p = T_true b (d.complete p)

  pub false-dec : {b : Bool} → Decides b P → ¬ P → b ≡ false
  false-dec {b} d n = T_false b (λ t. n (d.sound t))

pub eqb-dec : (m n : ℕ) → Decides (eqb m n) (m ≡ n)
eqb-dec m n = record { sound = eqb→eq m n; complete = λ e. rw e (eqb_refl n) }

pub test-dec : {A : Type 0} (E : Test A) (a b : A) → Decides (E.same a b) (a ≡ b)
test-dec E a b = record { sound = λ t. E.sound a b (T_true (E.same a b) t); complete = λ e. rw e (true-T (E.same b b) (E.self b)) }
