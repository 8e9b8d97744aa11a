-- The laws of checked files, lowest first.
-- the fields of a frame, as the code tests them
pub mod FieldLaws
-- frames of fixed layout
pub mod SizedLaws
pub mod FaultLaws
pub mod BodyLaws
pub mod PairLaws
pub mod FixedLaws
pub mod FixedAnswers
pub mod FitLaws
-- the relations
pub mod EntryLaws
pub mod SetLaws
pub mod TableLaws
pub mod CandidateLaws
-- the bytes of views
pub mod ViewByteLaws
pub mod ViewFrameLaws
-- the rules on views
pub mod ViewFields
pub mod ViewRuleLaws
-- one frame
pub mod StandingLaws
pub mod StepLaws
pub mod KindLaws
pub mod WalkLaws
pub mod FileInLaws
pub mod PlanLaws
