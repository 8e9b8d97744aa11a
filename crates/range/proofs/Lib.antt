-- The laws of ranges: when 32 bits hold one, and that each operation is sound.
pub mod Bits32
pub mod Soundness
pub mod Examples
