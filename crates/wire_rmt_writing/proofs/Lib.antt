-- `Laws` has the laws of the writers' loops and of their replies.
pub mod Laws
