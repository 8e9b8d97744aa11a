-- The laws, lowest first.
-- the kinds of views, and the relations that a goal depends on
pub mod ViewKinds
pub mod FlagLaws
pub mod LookedInto
pub mod NeedLaws
-- primary and foreign keys
pub mod RowTests
pub mod KeyLaws
pub mod ForeignLaws
pub mod ValidLaws
-- one view
pub mod ViewLaws
pub mod SignLaws
-- the file, and its views in turn
pub mod FileLaws
pub mod Turns
pub mod JudgementLaws
pub mod Preparing
pub mod OtherRanges
