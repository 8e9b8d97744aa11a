-- What the parts of a look give.
-- the answers, and a candidate before the evaluator
pub mod Looks
pub mod Evaluations
-- cells, moves, the search, the buffers
pub mod Cells
pub mod Moves
pub mod Scans
pub mod Buffers
