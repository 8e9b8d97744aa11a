-- What a reader must believe of skipping.
pub mod Skipped
