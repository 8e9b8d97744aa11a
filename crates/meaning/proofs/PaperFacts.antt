-- What the paper says beside its definitions, and that the definitions here agree with it. Assumes nothing.
use mathlib.Core.Path.{◌≡◌, sym, ap, ◌∙◌}
use mathlib.Core.Logic.{◌↔◌}
use mathlib.Core.Bool.{true}
use mathlib.Core.List.{List, map, Permᴰ}
use mathlib.Core.Option.{some}
use Prim.Native.Nat.{ℕ, ◌<◌, ◌≤◌, zero-le}
use lib.ListN.{length, length-map}
use Rattle.value.specs.Bag.{Same, Test, count, tick}
use Rattle.value.proofs.Bags.{tick-comm}
use Rattle.value.proofs.Decides.{by-test}
use Rattle.meaning.specs.Algebra.{Bag, IsGroup, IsProjection, MeaningOf, below, query}
use Rattle.meaning.specs.Bounds.{well_formed}
use Rattle.meaning.specs.Cases.{PTC, PTC-query}
use Rattle.meaning.specs.Evaluation.{combination_test, row_test, key_of}
use Rattle.meaning.specs.Lists.{is_pos}
use Rattle.meaning.specs.Syntax.{Combination, Database, File, Place, Row, View}
use Rattle.meaning.proofs.DecidedCases.{inhabited-same}
use Rattle.meaning.proofs.ListBags.{count_map, is_pos-no, is_pos-yes, length-bag, same_refl, same-sym}
use Rattle.meaning.proofs.Operations.{answer-one}
use Rattle.meaning.proofs.Relations.{fits}

-- a permutation keeps the multiplicities
pub perm_same : {A : Type 0} (E : Test A) {R S : List A} → Permᴰ R S → Same E R S
perm_same E Permᴰ.nil = same_refl
perm_same E (Permᴰ.cons e p) = record { at = λ a. rw e (ap (tick (E.same a _)) ((perm_same E p).at a)) }
perm_same E (Permᴰ.swap {a = x} {b = y} e e') = record { at = λ a. rw (← e, ← e') (tick-comm (E.same a x) (E.same a y) _) }
perm_same E (Permᴰ.trans p q) = record { at = λ a. (perm_same E p).at a ∙ (perm_same E q).at a }

-- projection: "The resulting multiset has the same number of rows as R"
pub projection-size : {A : Type 0} (f : A → Row) (R : List A) (T : Bag) → IsProjection f R T → length T ≡ length R
projection-size f R T t =
    let h : Same row_test T (map f R) = record { at = λ μ. t.at μ ∙ sym (count_map (row_test.same μ) f R) } in
    length-bag h ∙ length-map R f

-- "each group not strictly contained in a larger group": rows of R that share the grouping values k are in the group of k, as often
pub group-maximal : (gs : List Place) (R : List Combination) (k : Row) (G G' : List Combination) → IsGroup gs R k G
    → ((m : Combination) → count combination_test m G' ≤ count combination_test m R)
    → ((m : Combination) → 0 < count combination_test m G' → k ≡ key_of gs m)
    → (m : Combination) → count combination_test m G' ≤ count combination_test m G
group-maximal gs R k G G' g sub key m = rw (g.at m) (by-test (is_pos (count combination_test m G'))
    (λ t. let e = key m (is_pos-yes (count combination_test m G') t) in rw (← e, row_test.self k) (sub m))
    (λ t. rw (is_pos-no (count combination_test m G') t) zero-le))

-- Definition 1 for a view and for its own query are one
pub PTC-own : (F : File) → well_formed F ≡ true → (d : Database) (v : ℕ) (q : View) → query (length d) F v ≡ some q → PTC F d v ↔ PTC-query F d v q
unfolding PTC PTC-query MeaningOf
PTC-own F w d v q e = (
  (λ x. let (ne, x₁) = x in let (B, z, y) = x₁ in let (M, m, s) = z in (ne, (M, M v, m, m.view v q e, inhabited-same (same-sym s) y))),
  (λ x. let (ne, x₁) = x in let (M, B, m, a, y) = x₁ in
      (ne, (M v, (M, m, same_refl), inhabited-same (answer-one {M = below v M} {M' = below v M} (λ i. same_refl) q (fits F w (length d) v q e) a (m.view v q e)) y))),
)
