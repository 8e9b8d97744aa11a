-- Laws of skipping: what callers in other crates need, and the laws of each field and token.
pub mod Ends
pub mod Skips
pub mod Fields
pub mod Tokens
