-- What reading the input comes to.
pub mod Input
