pub mod Handing
pub mod Entries
