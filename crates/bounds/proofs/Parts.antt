-- The range of an expression from the answers of its parts. Assumes nothing.
use Rattle.std.specs.Prelude.{Option, None, Some}
use mathlib.Core.Path.{◌≡◌, refl, sym, ap, ◌∙◌}
use mathlib.Core.Bool.{Bool, true, false, ◌&&◌, cond, and-true, and-false}
use mathlib.Core.List.{List}
use Prim.Native.Nat.{ℕ}
use native.Mathlib.Omega.{arith}
use lib.IntN.{ℤ}
use Rattle.std.specs.Option.{is_some}
use Rattle.value.specs.Value.{Operation, Aggregate}
use Rattle.value.proofs.Decides.{by-test}
use Rattle.range.specs.Ranges.{within32, ranged, constant_of, hull_of, operated_of, rounded_of, aggregated_of}
use Rattle.range.specs.declared.Range.{Range}
use Rattle.meaning.specs.Syntax.{Expr, Cond}
use Rattle.meaning.specs.Bounds.{OpenRanges, range, within_e, within_c}
use Rattle.catalog.specs.Items.{open_ranges_in}
use Rattle.bounds.specs.Walk.{item_range, ranged_e, operated_r, rounded_r, hull_r, chosen_r, aggregated_r, is_within}
use Rattle.catalog.specs.declared.relation.Relation.{Relation}

-- the range, if it and the parts fit
abbrev fitting : Bool → Range → Option Range
fitting b r = cond b (Some r) None

with-parts : (r : Range) → fitting (within32 r && true) r ≡ ranged r
unfolding ranged
with-parts r = ap (λ (b : Bool). fitting b r) (and-true (within32 r))

without-parts : (r : Range) → fitting (within32 r && false) r ≡ None
without-parts r = ap (λ (b : Bool). fitting b r) (and-false (within32 r))

of-operation : (op : Operation) (p q : Bool) (a b : Range)
    → fitting (within32 (operated_of op a b) && (p && q)) (operated_of op a b) ≡ operated_r op (fitting p a) (fitting q b)
unfolding operated_r
of-operation op true true a b = with-parts (operated_of op a b)
of-operation op true false a b = without-parts (operated_of op a b)
of-operation op false q a b = without-parts (operated_of op a b)

of-rounding : (m : ℕ) (p : Bool) (a : Range) → fitting (within32 (rounded_of m a) && p) (rounded_of m a) ≡ rounded_r m (fitting p a)
unfolding rounded_r
of-rounding m true a = with-parts (rounded_of m a)
of-rounding m false a = without-parts (rounded_of m a)

of-choice : (w p q : Bool) (a b : Range) → fitting (w && (p && q)) (hull_of a b) ≡ chosen_r w (fitting p a) (fitting q b)
unfolding chosen_r hull_r
of-choice true true true a b = refl
of-choice true true false a b = refl
of-choice true false q a b = refl
of-choice false p q a b = refl

of-aggregate : (op : Aggregate) (R : ℕ) (p : Bool) (a : Range)
    → fitting (within32 (aggregated_of op R a) && p) (aggregated_of op R a) ≡ aggregated_r op R (fitting p a)
unfolding aggregated_r
of-aggregate op R true a = with-parts (aggregated_of op R a)
of-aggregate op R false a = without-parts (aggregated_of op R a)

fitting-is : (p : Bool) (a : Range) → is_within (fitting p a) ≡ p
unfolding is_within
fitting-is true a = refl
fitting-is false a = refl

-- the code asks whether there is a range
pub within-some : (r : Option Range) → is_some r ≡ is_within r
unfolding is_within
within-some (Some a) = refl
within-some None = refl

module _ (o : OpenRanges) where
  pub ranged-constant : (z : ℤ) → ranged (constant_of z) ≡ ranged_e o (Expr.constant z)
  unfolding ranged_e ranged
  ranged-constant z = refl

  pub ranged-operation : (op : Operation) (a b : Expr) → operated_r op (ranged_e o a) (ranged_e o b) ≡ ranged_e o (Expr.operation op a b)
  unfolding ranged_e
  ranged-operation op a b = sym (of-operation op (within_e o a) (within_e o b) (range o a) (range o b))

  pub ranged-rounding : (m : ℕ) (a : Expr) → rounded_r m (ranged_e o a) ≡ ranged_e o (Expr.rounding m a)
  unfolding ranged_e
  ranged-rounding m a = sym (of-rounding m (within_e o a) (range o a))

  pub ranged-choice : (c : Cond) (a b : Expr) → chosen_r (within_c o c) (ranged_e o a) (ranged_e o b) ≡ ranged_e o (Expr.choice c a b)
  unfolding ranged_e
  ranged-choice c a b = sym (of-choice (within_c o c) (within_e o a) (within_e o b) (range o a) (range o b))

  pub ranged-aggregate : (op : Aggregate) (a : Expr) → aggregated_r op o.bound (ranged_e o a) ≡ ranged_e o (Expr.aggregate op a)
  unfolding ranged_e
  ranged-aggregate op a = sym (of-aggregate op o.bound (within_e o a) (range o a))

  pub ranged-is : (a : Expr) → is_within (ranged_e o a) ≡ within_e o a
  unfolding ranged_e
  ranged-is a = fitting-is (within_e o a) (range o a)

  -- what the two answers say of the expression
  pub ranged-answered : (e : Expr) {q : Range} → ranged_e o e ≡ Some q → (q ≡ range o e) × (within_e o e ≡ true)
  unfolding ranged_e
  ranged-answered e {q} h = by-test (within_e o e)
      (λ t. let w : Some (range o e) ≡ Some q = rw t at h in let i : range o e ≡ q = cc in (sym i, t))
      (λ t. let w : None ≡ Some q = rw t at h in let z : ◌≡◌ {A = ℕ} 0 1 = cc in absurd (omega arith))

  pub ranged-beyond : (e : Expr) → ranged_e o e ≡ None → within_e o e ≡ false
  unfolding is_within
  ranged-beyond e h = sym (ranged-is e) ∙ ap is_within h

pub ranged-column : (relations : List Relation) (n : ℕ) (items : List ℕ) (R i c : ℕ)
    → ranged (item_range relations items i c) ≡ ranged_e (open_ranges_in relations n items R) (Expr.column i c)
unfolding ranged_e ranged item_range
ranged-column relations n items R i c = refl
