-- The marked examples, proved.
-- what there is to compute of an entry
pub mod Computed
-- the theorem
pub mod Marked
-- the theorem on the samples
pub mod Samples
-- the theorem on the samples of exists
pub mod Exists
-- the theorem on sheets
pub mod Sheets
-- misreadings of document 01
pub mod Misreadings
