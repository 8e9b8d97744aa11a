-- The laws, lowest first.
pub mod StrideLaws
pub mod CellLaws
pub mod RowLaws
