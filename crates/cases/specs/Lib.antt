-- What the functions on cases are given, and what they give.
pub mod TablesIn
pub mod Validity
pub mod Needs
pub mod Relations
pub mod Judgement
