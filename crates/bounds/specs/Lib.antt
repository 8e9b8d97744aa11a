-- What the walk over expressions and conditions on frame bytes promises.
pub mod Walk
