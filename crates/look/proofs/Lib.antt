-- The laws, lowest first.
-- the cells of a candidate
pub mod CellLaws
pub mod Standing
-- from candidate to candidate
pub mod Distinct
pub mod DigitLaws
pub mod MoveLaws
pub mod PlaceLaws
-- the search
pub mod ScanLaws
-- demand 2
pub mod EvaluatedRows
-- the buffers and a look
pub mod BufferLaws
pub mod LookLaws
