-- `Turn` is what one byte adds
pub mod Turn
