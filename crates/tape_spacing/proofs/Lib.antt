-- The laws of spacing, for the loop and for the crates above.
pub mod Laws
pub mod Alike
