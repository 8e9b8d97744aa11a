-- The number of a kind, and the kind of a number. Assumes nothing.
use mathlib.Core.Path.{◌≡◌, refl, ap, ◌∙◌}
use mathlib.Core.Bool.{cond}
use Prim.Native.Nat.{ℕ, ◌≤◌}
use native.Mathlib.Omega.{arith}
use lib.Dec.{eqb}
use borrow.Author.Tests.{eqb-true, eqb-false}
use Rattle.std.specs.Prelude.{Option, Some, None}
use Rattle.value.proofs.Decides.{by-test}
use Rattle.catalog.specs.Kinds.{kind_at, number_of}
use Rattle.catalog.specs.declared.kind.Kind.{Kind}
use Rattle.catalog.specs.declared.kind.ViewKind.{ViewKind}
use Rattle.catalog.specs.declared.kind.SetOperation.{SetOperation}

-- one test of the chain
step : (n m : ℕ) (x : Kind) (more : Option Kind) (k : Kind) → cond (eqb n m) (Some x) more ≡ Some k → m ≡ number_of x → (more ≡ Some k → n ≡ number_of k)
    → n ≡ number_of k
step n m x more k e h next = by-test (eqb n m)
    (λ t. let e' : ◌≡◌ {A = Option Kind} (Some x) (Some k) = rw t at e in let q : x ≡ k = cc in eqb-true n m t ∙ h ∙ ap number_of q)
    (λ t. next (rw t at e))

no-more : (n : ℕ) (k : Kind) → ◌≡◌ {A = Option Kind} None (Some k) → n ≡ number_of k
no-more n k e = let z : ◌≡◌ {A = ℕ} 0 1 = cc in absurd (omega arith)

pub kind-number : (n : ℕ) (k : Kind) → kind_at n ≡ Some k → n ≡ number_of k
kind-number n k e =
    step n 1 Kind.Table _ k e refl (λ e. step n 2 Kind.ForeignKey _ k e refl (λ e. step n 3 (Kind.View ViewKind.Basic) _ k e refl (λ e.
    step n 4 (Kind.View ViewKind.Aggregate) _ k e refl (λ e. step n 5 (Kind.Set SetOperation.Union) _ k e refl (λ e.
    step n 6 (Kind.Set SetOperation.Intersection) _ k e refl (λ e. step n 7 Kind.Goal _ k e refl (no-more n k)))))))

-- a number of no kind
past : (n m : ℕ) (x : Kind) (more : Option Kind) → cond (eqb n m) (Some x) more ≡ None → (n ≡ m → ⊥) × (more ≡ None)
past n m x more e = by-test (eqb n m)
    (λ t. let e' : ◌≡◌ {A = Option Kind} (Some x) None = rw t at e in let z : ◌≡◌ {A = ℕ} 0 1 = cc in absurd (omega arith))
    (λ t. (eqb-false n m t, rw t at e))

pub no-kind : (n : ℕ) → kind_at n ≡ None → 1 ≤ n → n ≤ 7 → ⊥
no-kind n e a b =
    let p = past n 1 Kind.Table _ e in
    let q = past n 2 Kind.ForeignKey _ p.1 in
    let r = past n 3 (Kind.View ViewKind.Basic) _ q.1 in
    let s = past n 4 (Kind.View ViewKind.Aggregate) _ r.1 in
    let t = past n 5 (Kind.Set SetOperation.Union) _ s.1 in
    let u = past n 6 (Kind.Set SetOperation.Intersection) _ t.1 in
    let v = past n 7 Kind.Goal _ u.1 in
    omega (arith, p.0, q.0, r.0, s.0, t.0, u.0, v.0)
