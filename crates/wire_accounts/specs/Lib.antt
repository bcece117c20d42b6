pub mod Accounts
pub mod Written
pub mod Entry
pub mod Walk
pub mod Cases
pub mod Holds
