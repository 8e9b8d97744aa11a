-- The laws, lowest first.
-- combinations and groups by number
pub mod NumberLaws
pub mod Groups
pub mod Picks
-- evaluators, token by token
pub mod Parts
pub mod Means
pub mod Gathered
pub mod Existing
pub mod Passing
-- what callers use
pub mod Columns
pub mod Uses
-- rows written behind others
pub mod Copying
pub mod Intersecting
-- rows of basic views
pub mod Selecting
pub mod Rooms
pub mod Basic
-- groups and aggregate views
pub mod Marking
pub mod GroupLists
pub mod GroupSteps
