-- Positive and negative test cases: Definitions 1 to 4 of source document 000 over the algebra. "It is a case only if
-- valid and some table has a row." What depends on the goal takes it as an argument. Assumes nothing: these are definitions.
use Rattle.std.specs.Prelude.{◌≡◌, ◌⊎◌, Bool, true, false, List, ℕ, ◌<◌, length}
use Rattle.std.proofs.Math.Option.{some}
use Rattle.value.specs.Bag.{count}
use Rattle.meaning.specs.Lists.{Any}
use Rattle.meaning.specs.Syntax.{Expr, Cond, SetOperation, View, Place, Goal, File, Row, Database}
use Rattle.meaning.specs.Evaluation.{row_test}
use Rattle.meaning.specs.Algebra.{Bag, query, below, Means, IsMeaning, MeaningOf}
use Rattle.meaning.specs.Valid.{Valid}

-- "a non-empty database instance": "some table has a row"
abbrev pub NonEmpty : Database → Type 0
NonEmpty d = Any (λ R. 0 < length R) d

-- ⟨Q⟩ ≠ ∅
abbrev pub Inhabited : Bag → Type 0
Inhabited B = (μ : Row) × (0 < count row_test μ B)

module _ (F : File) (d : Database) where
  -- Definition 1: "a non-empty database instance d is a positive test case (PTC) for a view V when ⟨V⟩ ≠ ∅"
  unfoldable pub PTC : ℕ → Type 0
  PTC v = NonEmpty d × ((B : Bag) × MeaningOf F d v B × Inhabited B)

  -- the same of a query in the place of that of v: "Views below the negated one keep their meaning"
  unfoldable pub PTC-query : ℕ → View → Type 0
  PTC-query v q = NonEmpty d × ((M : ℕ → Bag) × (B : Bag) × IsMeaning F d M × Means (below v M) q B × Inhabited B)

  pub data NTC : ℕ → Type 0 where
    -- Definition 2: "NTC for a view V with associated basic query Q_w when d is a PTC for Q_not(w)"
    basic : {v : ℕ} {fs : List ℕ} {w : Cond} {ss : List Expr} → query (length d) F v ≡ some (View.basic fs w ss)
        → PTC-query v (View.basic fs (Cond.negated w) ss) → NTC v
    -- Definition 3: "if it is a PTC for either Q_(not(w), h), Q_(w, not(h)), or Q_(not(w), not(h))"
    grouped : {v : ℕ} {fs : List ℕ} {w h : Cond} {gs : List Place} {ss : List Expr} → query (length d) F v ≡ some (View.grouped fs w gs h ss)
        → PTC-query v (View.grouped fs (Cond.negated w) gs h ss)
        ⊎ (PTC-query v (View.grouped fs w gs (Cond.negated h) ss) ⊎ PTC-query v (View.grouped fs (Cond.negated w) gs (Cond.negated h) ss))
        → NTC v
    -- Definition 4: union "if d is a NTC for both", intersection "if d is a NTC for either"
    union : {v i j : ℕ} → query (length d) F v ≡ some (View.set SetOperation.union i j) → NTC i → NTC j → NTC v
    intersection-left : {v i j : ℕ} → query (length d) F v ≡ some (View.set SetOperation.intersection i j) → NTC i → NTC v
    intersection-right : {v i j : ℕ} → query (length d) F v ≡ some (View.set SetOperation.intersection i j) → NTC j → NTC v

  -- "sign (0 positive, 1 negative)"
  abbrev pub Wanted : Bool → ℕ → Type 0
  Wanted true v = NTC v
  Wanted false v = PTC v

  -- d is a case of the goal g, of the sign that it wants
  pub record Case (g : Goal) : Type 0 where
    pub valid : Valid F d
    pub wanted : Wanted g.negative g.view
