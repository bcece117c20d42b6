-- `Laws` has the laws of a line, of the lines that are left, and of the call; `Cases` and `Holds` prove the statements of those
-- names.
pub mod Laws
pub mod Cases
pub mod Holds
