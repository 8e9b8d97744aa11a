-- The laws of text and frames, lowest first.
pub mod Digits
pub mod Runs
pub mod Packed
-- reading is the inverse of writing; what a refusal says; the two together
pub mod Laws
pub mod Refusals
pub mod Complete
-- for callers
pub mod Callers
pub mod Exits
pub mod Writing
pub mod Examples
