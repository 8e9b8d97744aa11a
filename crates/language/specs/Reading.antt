-- Reading prefix forms "left to right for 4, 5, 6": the tree with the bytes behind it, or the number of the refusal. Assumes nothing:
-- these are definitions, and they compute.
use Rattle.std.specs.Prelude.{Bool, ◌&&◌, true, false, List, [], ◌∷◌, ◌++◌, map, ℕ, zero, suc, ◌+◌, ◌*◌, ◌≤◌, ◌<◌, ltb, leb, eqb, length, get_or, ◌≤ℤ◌}
use Rattle.value.specs.Integer.{low16, high16, bytes_z}
use Rattle.value.specs.Value.{Operation, Comparison, Connective, aggregate_at}
use Rattle.meaning.specs.Syntax.{Expr, Cond}
use Rattle.meaning.specs.Bounds.{Schema, schema}

-- ---- readers

-- what was read, with the bytes behind it; or the number of a refusal
pub data Read (A : Type 0) : Type 0 where
  ok : A → List ℕ → Read A
  refused : ℕ → Read A

abbrev pub Reader : Type 0 → Type 0
Reader A = List ℕ → Read A

abbrev pub done : {A : Type 0} → A → Reader A
done a bs = Read.ok a bs

abbrev pub refuse : {A : Type 0} → ℕ → Reader A
refuse n bs = Read.refused n

abbrev pub and_then : {A B : Type 0} → Read A → (A → Reader B) → Read B
and_then (Read.ok a rest) f = f a rest
and_then (Read.refused n) f = Read.refused n

-- what was read goes to f with the bytes behind it; a refusal stays
infixl 10 ◌>>=◌
abbrev pub ◌>>=◌ : {A B : Type 0} → Reader A → (A → Reader B) → Reader B
◌>>=◌ m f bs = and_then (m bs) f

-- "4, frame too short"
abbrev pub byte : Reader ℕ
byte [] = Read.refused 4
byte (b ∷ bs) = Read.ok b bs

-- the reader on one side of a test
abbrev pub either : {A : Type 0} → Bool → A → A → A
either true a b = a
either false a b = b

-- one byte that passes a test, else the refusal n
abbrev pub byte_if : ℕ → (ℕ → Bool) → Reader ℕ
byte_if n p = byte >>= λ b. either (p b) (done b) (refuse n)

-- "high byte first"
abbrev pub two_bytes : Reader ℕ
two_bytes = byte >>= λ h. byte >>= λ l. done (h * 256 + l)

-- the reader that a table has for a token; "4, .. unknown token"
abbrev pub choose : {A : Type 0} → List (ℕ × Reader A) → ℕ → Reader A
choose [] t = refuse 4
choose (entry ∷ more) t = either (eqb t entry.0) entry.1 (choose more t)

-- ---- the tokens

-- "two bytes unsigned, 1 to 1,000", else 5
abbrev pub step : Reader ℕ
step = two_bytes >>= λ m. either (leb 1 m && leb m 1000) (done m) (refuse 5)

-- the from items that are open where an expression stands
pub record Open : Type 0 where
  -- the number of columns of each
  pub widths : List ℕ
  -- the number of columns of each relation before the view
  pub relations : List ℕ

-- those of a view with this from list, over the schemas of the relations before it
abbrev pub open_items : List Schema → List ℕ → Open
open_items ss fs = record { widths = map (λ i. length (schema ss i).ranges) fs; relations = map (λ s. length s.ranges) ss }

-- the row of relation i is "one more from item, numbered after those already open"
abbrev pub opened_item : Open → ℕ → Open
opened_item o i = record { widths = o.widths ++ (get_or o.relations i 0 ∷ []); relations = o.relations }

-- "01 from item, column", each of which must be there, else 6; `cols` has each from item's number of columns
abbrev pub place : List ℕ → Reader Expr
place cols = byte_if 6 (λ i. ltb i (length cols)) >>= λ i. byte_if 6 (λ c. ltb c (get_or cols i 0)) >>= λ c. done (Expr.column i c)

-- what stands behind each expression token, given how expressions and conditions are read
abbrev pub expressions : Open → Reader Expr → Reader Cond → List (ℕ × Reader Expr)
expressions o e c =
    (0x00, (byte >>= λ h. byte >>= λ l. done (Expr.constant (bytes_z h l))))
    ∷ (0x01, place o.widths)
    ∷ (0x02, (e >>= λ a. e >>= λ b. done (Expr.operation Operation.sum a b)))
    ∷ (0x03, (e >>= λ a. e >>= λ b. done (Expr.operation Operation.difference a b)))
    ∷ (0x04, (e >>= λ a. e >>= λ b. done (Expr.operation Operation.product a b)))
    ∷ (0x05, (step >>= λ m. e >>= λ a. done (Expr.rounding m a)))
    ∷ (0x06, (c >>= λ t. e >>= λ a. e >>= λ b. done (Expr.choice t a b)))
    ∷ (0x07, (byte_if 5 (λ n. leb n 3) >>= λ n. e >>= λ a. done (Expr.aggregate (aggregate_at n) a)))
    ∷ []

-- "at most six in all": "5 for a seventh from item, at token 17 itself, 6 for the relation"; then the condition, with one more item open
abbrev pub existing : Open → (Open → Reader Cond) → Reader Cond
existing o c = either (ltb (length o.widths) 6)
    (byte_if 6 (λ i. ltb i (length o.relations)) >>= λ i. c (opened_item o i) >>= λ t. done (Cond.exists i t)) (refuse 5)

-- what stands behind each condition token, given how expressions are read, and conditions with any items open
abbrev pub conditions : Open → Reader Expr → (Open → Reader Cond) → List (ℕ × Reader Cond)
conditions o e c =
    (0x10, done Cond.always)
    ∷ (0x11, (e >>= λ a. e >>= λ b. done (Cond.comparison Comparison.equal a b)))
    ∷ (0x12, (e >>= λ a. e >>= λ b. done (Cond.comparison Comparison.less a b)))
    ∷ (0x13, (e >>= λ a. e >>= λ b. done (Cond.comparison Comparison.less_equal a b)))
    ∷ (0x14, (c o >>= λ t. done (Cond.negated t)))
    ∷ (0x15, (c o >>= λ s. c o >>= λ t. done (Cond.connection Connective.conjunction s t)))
    ∷ (0x16, (c o >>= λ s. c o >>= λ t. done (Cond.connection Connective.disjunction s t)))
    ∷ (0x17, existing o c)
    ∷ []

-- ---- expressions and conditions: no tree is deeper than its bytes are many, so as deep as the bytes go is deep enough
unfoldable mutual
  pub deep_e : Open → ℕ → Reader Expr
  deep_e o zero = refuse 4
  deep_e o (suc n) = byte >>= choose (expressions o (deep_e o n) (deep_c o n))

  pub deep_c : Open → ℕ → Reader Cond
  deep_c o zero = refuse 4
  deep_c o (suc n) = byte >>= choose (conditions o (deep_e o n) (λ p. deep_c p n))

unfoldable pub read_e : Open → Reader Expr
read_e o bs = deep_e o (length bs) bs

unfoldable pub read_c : Open → Reader Cond
read_c o bs = deep_c o (length bs) bs

-- the trees that bytes can stand for: constants of 16 bits, steps in their limits, columns and relations that are there, and at most six items
unfoldable mutual
  pub InLimitsE : Open → Expr → Type 0
  InLimitsE o (Expr.constant z) = (low16 ≤ℤ z) × (z ≤ℤ high16)
  InLimitsE o (Expr.column i c) = (i < length o.widths) × (c < get_or o.widths i 0)
  InLimitsE o (Expr.operation op a b) = InLimitsE o a × InLimitsE o b
  InLimitsE o (Expr.rounding m a) = (1 ≤ m) × (m ≤ 1000) × InLimitsE o a
  InLimitsE o (Expr.choice c a b) = InLimitsC o c × InLimitsE o a × InLimitsE o b
  InLimitsE o (Expr.aggregate op a) = InLimitsE o a

  pub InLimitsC : Open → Cond → Type 0
  InLimitsC o Cond.always = Unit {0}
  InLimitsC o (Cond.comparison op a b) = InLimitsE o a × InLimitsE o b
  InLimitsC o (Cond.negated c) = InLimitsC o c
  InLimitsC o (Cond.connection op c d) = InLimitsC o c × InLimitsC o d
  InLimitsC o (Cond.exists i c) = (length o.widths < 6) × (i < length o.relations) × InLimitsC (opened_item o i) c
