pub mod Spacing
pub mod Examples
pub mod Alike
pub mod Direction
