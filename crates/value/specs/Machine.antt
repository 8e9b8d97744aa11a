-- What the code's values, truths, running aggregates, kinds of operators and domains stand for. Other crates cite each map by its name
-- and use its laws only. Assumes nothing: these are definitions.
use Rattle.std.specs.Prelude.{Option, None, Some, ℤ}
use Rattle.std.proofs.Math.Option.{none, some}
use Rattle.value.specs.Value.{Value, Truth, Tally, Column, Operation, Comparison, Connective, Aggregate}
use Rattle.value.specs.declared.datum.Datum.{Datum}
use Rattle.value.specs.declared.boolean.Boolean.{Boolean}
use Rattle.value.specs.declared.boolean.Boolean.TheVariants.{True, False}
use Rattle.value.specs.declared.accumulator.Accumulator.{Accumulator}
use Rattle.value.specs.declared.domain.Domain.{Domain}
use Rattle.value.specs.declared.operator.Operation as rust_operation
use Rattle.value.specs.declared.operator.Operation.TheVariants.{Sum, Difference, Product}
use Rattle.value.specs.declared.operator.Comparison as rust_comparison
use Rattle.value.specs.declared.operator.Comparison.TheVariants.{Equal, Less, LessOrEqual}
use Rattle.value.specs.declared.operator.Connective as rust_connective
use Rattle.value.specs.declared.operator.Connective.TheVariants.{And, Or}
use Rattle.value.specs.declared.operator.Aggregate as rust_aggregate
use Rattle.value.specs.declared.operator.Aggregate.TheVariants as kind

unfoldable pub value_of : Datum → Value
value_of d = Value.number d.n

unfoldable pub truth_of : Boolean → Truth
truth_of True = Truth.True
truth_of False = Truth.False

-- the kind that each of the code's stands for; these compute
abbrev pub operation_of : rust_operation.Operation → Operation
operation_of Sum = Operation.sum
operation_of Difference = Operation.difference
operation_of Product = Operation.product

abbrev pub comparison_of : rust_comparison.Comparison → Comparison
comparison_of Equal = Comparison.equal
comparison_of Less = Comparison.less
comparison_of LessOrEqual = Comparison.less_equal

abbrev pub connective_of : rust_connective.Connective → Connective
connective_of And = Connective.conjunction
connective_of Or = Connective.disjunction

abbrev pub aggregate_of : rust_aggregate.Aggregate → Aggregate
aggregate_of kind.Count = Aggregate.count
aggregate_of kind.Sum = Aggregate.sum
aggregate_of kind.Minimum = Aggregate.minimum
aggregate_of kind.Maximum = Aggregate.maximum

-- a running aggregate, and the kind that it is of
abbrev pub total_of : Option ℤ → Tally
total_of None = none
total_of (Some z) = some z

unfoldable pub tally_of : Accumulator → Tally
tally_of a = total_of a.total

unfoldable pub kind_of : Accumulator → Aggregate
kind_of a = aggregate_of a.kind

unfoldable pub column_of : Domain → Column
column_of d = record { lo = d.lo; hi = d.hi }
