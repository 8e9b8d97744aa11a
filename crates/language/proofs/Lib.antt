-- The laws of texts, files and answers, lowest first.
-- prefix forms are read in one way
pub mod Readers
pub mod PrefixForms
-- what is accepted, and as what
pub mod FairReaders
pub mod Turns
pub mod FairFrames
pub mod MaskLaws
pub mod SoundFrames
pub mod FramesBack
pub mod Steps
pub mod Folds
pub mod Refusals
pub mod Accepted
pub mod LegalAccepted
pub mod LegalBytes
pub mod TextLaws
pub mod RefutedChecks
pub mod Examples
-- demand 3 of texts
pub mod RealLooks
-- the program's output, and what is read back from it
pub mod WholeSearch
pub mod PrintedLaws
pub mod ReadBack
pub mod Program
pub mod InputLaws
pub mod OutputExamples
