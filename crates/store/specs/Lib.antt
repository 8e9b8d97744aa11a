-- How rows lie in the work area, and what its functions promise.
pub mod Strides
pub mod Layout
pub mod Rows
