pub mod Files
pub mod Thinning
pub mod Holds
pub mod Cases
