-- What the checker's numbers and relations stand for, and what its functions give.
pub mod Faults
pub mod Catalogued
pub mod FixedFaults
pub mod Entries
pub mod CandidateCount
pub mod ViewFaults
pub mod ViewRules
pub mod Standing
pub mod Plans
