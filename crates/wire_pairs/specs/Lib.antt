pub mod Pairs
pub mod Store
pub mod Holds
pub mod StoreCases
