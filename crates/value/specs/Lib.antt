-- What a reader must believe of values, in the order to read it.

pub mod Bag
pub mod Integer
pub mod Value
pub mod Machine
