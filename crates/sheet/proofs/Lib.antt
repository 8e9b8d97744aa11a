-- The laws of the sheet.
pub mod PlanSheets
