-- What a reader must believe of ranges.
pub mod Ranges
