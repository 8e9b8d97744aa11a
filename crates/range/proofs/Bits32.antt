-- When 32 bits hold a range. Assumes nothing.
use mathlib.Core.Path.{◌≡◌, refl, sym, ap, ◌∙◌}
use mathlib.Core.Bool.{true, false}
use Rattle.std.specs.Prelude.{Option, None, Some}
use Prim.Native.Nat.{ℕ}
use native.Mathlib.Omega.{arith}
use lib.IntN.{ℤ}
use mir.Syntax.{w32}
use mir.Val.{SFits}
use Rattle.std.specs.Prelude.{Result, Ok, Err, FitsSigned}
use Rattle.std.specs.Result.{OkIff, result_ok}
use Rattle.value.specs.Integer.{in32}
use Rattle.value.specs.Value.{Value, Held}
use Rattle.value.proofs.Decides.{by-test, and_parts}
use Rattle.value.proofs.Linear.{ints}
use Rattle.value.proofs.Fits.{fits-in32, in32-fits}
use Rattle.value.proofs.Values.{between-wider}
use Rattle.range.specs.Ranges.{Inside, within32, fitted, ranged_told, ranged}
use Rattle.range.specs.declared.Range.{Range}

module _ (r : Range) where
  pub ranged-within : in32 r.lo ≡ true → in32 r.hi ≡ true → ranged r ≡ Some r
  unfolding ranged
  ranged-within p q = rw (p, q)

  pub ranged-low : in32 r.lo ≡ false → ranged r ≡ None
  unfolding ranged
  ranged-low p = rw p

  pub ranged-high : in32 r.lo ≡ true → in32 r.hi ≡ false → ranged r ≡ None
  unfolding ranged
  ranged-high p q = rw (p, q)

  -- a range of the code
  pub ranged-fits : SFits w32 r.lo → SFits w32 r.hi → ranged r ≡ Some r
  ranged-fits l h = ranged-within (fits-in32 l) (fits-in32 h)

-- ---- a number that is tried in 32 bits
pub tried-some : {E : Type 0} (t : Result ℤ E) (z : ℤ) {x : ℤ} → OkIff t (FitsSigned w32 z) z → result_ok t ≡ Some x → (in32 z ≡ true) × (x ≡ z)
tried-some (Ok y) z {x} h e = let i : y ≡ x = cc in (fits-in32 h.0, sym i ∙ h.1)
tried-some (Err d) z {x} h e = let k : ◌≡◌ {A = ℕ} 0 1 = cc in absurd (omega arith)

pub tried-none : {E : Type 0} (t : Result ℤ E) (z : ℤ) → OkIff t (FitsSigned w32 z) z → result_ok t ≡ None → in32 z ≡ false
tried-none (Ok y) z h e = let k : ◌≡◌ {A = ℕ} 0 1 = cc in absurd (omega arith)
tried-none (Err d) z h e = by-test (in32 z) (λ t. absurd (h (in32-fits z t))) (λ t. t)

-- ---- what the answers say

pub ranged-told : (x : Range) → ranged_told (ranged x) ≡ fitted x
unfolding ranged fitted
ranged-told x = by-test (within32 x) (λ t. rw t) (λ t. rw t)

same-told : (a b : Option Range) → ranged_told a ≡ ranged_told b → a ≡ b
same-told (Some r) (Some q) e = let i : r ≡ q = cc in ap Some i
same-told (Some r) None e = let z : ◌≡◌ {A = ℕ} 0 1 = cc in absurd (omega arith)
same-told None (Some q) e = let z : ◌≡◌ {A = ℕ} 0 1 = cc in absurd (omega arith)
same-told None None e = refl

-- an answer that says it is that one
pub told-ranged : {a : Option Range} (x : Range) → ranged_told a ≡ fitted x → a ≡ ranged x
told-ranged {a} x e = same-told a (ranged x) (e ∙ sym (ranged-told x))

-- a range that is answered is the one that was asked for, and 32 bits hold it
pub answered : {r q : Range} → ranged r ≡ Some q → (q ≡ r) × (within32 r ≡ true)
unfolding ranged
answered {r} {q} e = by-test (within32 r)
    (λ t. let h : Some r ≡ Some q = rw t at e in let i : r ≡ q = cc in (sym i, t))
    (λ t. let h : None ≡ Some q = rw t at e in let z : ◌≡◌ {A = ℕ} 0 1 = cc in absurd (omega arith))

-- a value inside a range that 32 bits hold is held
pub inside-held : {r : Range} {v : Value} → within32 r ≡ true → Inside r v → Held v
inside-held {r} e i =
    let p = and_parts (in32 r.lo) (in32 r.hi) e in
    let l : SFits w32 r.lo = in32-fits r.lo p.0 in
    let h : SFits w32 r.hi = in32-fits r.hi p.1 in
    between-wider (omega ints) (omega ints) i
