-- How a checked file lies in memory, and what its relations and counts stand for.
pub mod Relations
pub mod Kinds
pub mod Frames
pub mod Items
pub mod FileIn
