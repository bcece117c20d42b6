pub mod Numbers
pub mod Commands
pub mod Replies
pub mod Sent
pub mod Holds
pub mod Cases
