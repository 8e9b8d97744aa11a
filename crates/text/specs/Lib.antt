-- What a reader must believe of the text of frames, in the order to read it.
pub mod Text
pub mod Refusals
pub mod Pair
pub mod Answers
