pub mod Step
pub mod Operations
pub mod Promises
pub mod Answers
