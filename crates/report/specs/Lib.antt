-- What the functions that write the output give.
pub mod Lines
