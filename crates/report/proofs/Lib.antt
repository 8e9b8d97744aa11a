-- The laws of the functions that write the output, lowest first.
pub mod LineLaws
pub mod TableLaws
pub mod CaseLaws
pub mod OutputLaws
