-- The laws, lowest first. Each is stated once, and other crates cite it from here.
pub mod Decides
pub mod Places
pub mod Linear
pub mod Order
pub mod Fits
pub mod Rounding
pub mod TwosComplement
pub mod Bags
pub mod Values
pub mod Examples
