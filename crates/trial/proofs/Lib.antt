-- Laws of a trial.
pub mod TrialLaws
