-- What the evaluation of one database promises.
pub mod Tried
