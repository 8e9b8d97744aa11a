-- What a reader must believe, in the order of document 01.
pub mod Lists
pub mod Syntax
pub mod Evaluation
pub mod Rows
pub mod Algebra
pub mod Valid
pub mod Cases
pub mod Bounds
pub mod Candidates
pub mod Look
pub mod Looks
-- what is computed to decide what is said above
pub mod Decided
-- no part of what is believed: that 32 bits hold every result, for the proofs of the code
pub mod Clear
