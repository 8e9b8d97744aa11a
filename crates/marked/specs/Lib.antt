-- What a reader must believe of the marked examples.
pub mod Table
-- more of the same, for every operation of the bounds and every token
pub mod Samples
-- token 17
pub mod Exists
-- what the second program prints
pub mod Sheets
