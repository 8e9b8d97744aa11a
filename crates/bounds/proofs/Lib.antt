-- The laws of the walk, lowest first. Callers cite `Columns` (which columns may stand outside 07), `Parts` (what a range that is
-- answered says) and `Encoded` (the contracts for encodings of trees).
pub mod Columns
pub mod Parts
pub mod Fields
pub mod Walks
pub mod Encoded
pub mod Examples
