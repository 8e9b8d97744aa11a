-- The laws of reading the input.
pub mod InputLaws
