-- `Calling` has the laws of replies and notices in a whole call.
pub mod Calling
