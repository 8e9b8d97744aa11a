-- The theorems on the meaning, lowest first.
-- what holds of elements
pub mod Elements
-- lists, bags and stacks
pub mod DecidedLists
pub mod ListBags
pub mod ListSteps
pub mod Listed
pub mod Sizes
pub mod Stacks
-- demand 2: views are the algebra's, cases the paper's, and the order of rows does not count
pub mod WellFormed
pub mod Alike
pub mod SameScopes
pub mod Spread
pub mod Operations
pub mod Relations
pub mod DecidedValidity
pub mod DecidedCases
pub mod RowOrder
pub mod Demand2
pub mod PaperFacts
pub mod RefutedRows
pub mod RefutedExists
-- ranges hold every value, and 32 bits every result
pub mod RangeOfValue
pub mod ViewRanges
pub mod RangesHold
-- candidates are numbered, and demand 3
pub mod Digits
pub mod Numbering
pub mod Seeks
pub mod LookTests
pub mod OneLook
pub mod ListOfLooks
pub mod Stretches
pub mod Demand3
pub mod RefutedLooks
pub mod Examples
