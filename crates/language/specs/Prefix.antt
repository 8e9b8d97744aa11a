-- Expressions and conditions in prefix form, as frame bytes. Assumes nothing: these are definitions, and they compute.
use Rattle.std.specs.Prelude.{List, [], ◌∷◌, ◌++◌, ℕ, ◌/◌, ◌%◌}
use Rattle.value.specs.Integer.{high_byte, low_byte}
use Rattle.value.specs.Value.{Operation, Comparison, Connective, Aggregate}
use Rattle.meaning.specs.Syntax.{Expr, Cond}

-- "02 sum, 03 difference, 04 product"
abbrev pub operation_token : Operation → ℕ
operation_token Operation.sum = 0x02
operation_token Operation.difference = 0x03
operation_token Operation.product = 0x04

-- "07 aggregate (0 count, 1 sum, 2 min, 3 max)"
abbrev pub aggregate_byte : Aggregate → ℕ
aggregate_byte Aggregate.count = 0
aggregate_byte Aggregate.sum = 1
aggregate_byte Aggregate.minimum = 2
aggregate_byte Aggregate.maximum = 3

-- "11 equal, 12 less, 13 less or equal"
abbrev pub comparison_token : Comparison → ℕ
comparison_token Comparison.equal = 0x11
comparison_token Comparison.less = 0x12
comparison_token Comparison.less_equal = 0x13

-- "15 and. 16 or"
abbrev pub connective_token : Connective → ℕ
connective_token Connective.conjunction = 0x15
connective_token Connective.disjunction = 0x16

-- "Sixteen-bit fields are high byte first"
unfoldable mutual
  pub encode_e : Expr → List ℕ
  encode_e (Expr.constant z) = 0x00 ∷ high_byte z ∷ low_byte z ∷ []
  encode_e (Expr.column i c) = 0x01 ∷ i ∷ c ∷ []
  encode_e (Expr.operation op a b) = operation_token op ∷ encode_e a ++ encode_e b
  encode_e (Expr.rounding m a) = 0x05 ∷ m / 256 ∷ m % 256 ∷ encode_e a
  encode_e (Expr.choice c a b) = 0x06 ∷ encode_c c ++ encode_e a ++ encode_e b
  encode_e (Expr.aggregate op a) = 0x07 ∷ aggregate_byte op ∷ encode_e a

  pub encode_c : Cond → List ℕ
  encode_c Cond.always = 0x10 ∷ []
  encode_c (Cond.comparison op a b) = comparison_token op ∷ encode_e a ++ encode_e b
  encode_c (Cond.negated c) = 0x14 ∷ encode_c c
  encode_c (Cond.connection op c d) = connective_token op ∷ encode_c c ++ encode_c d
  -- "token 17, a relation numbered below the view, a condition"
  encode_c (Cond.exists i c) = 0x17 ∷ i ∷ encode_c c
