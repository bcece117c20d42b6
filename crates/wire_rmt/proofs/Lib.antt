-- `Laws` and `Lines` have the cases of the readers of numbers and commands, for the crates above too; `Numbers`, `Commands` and
-- `Replies` prove the statements of specs/Holds.antt, `Cases` those of specs/Cases.antt.
pub mod Laws
pub mod Lines
pub mod Numbers
pub mod Commands
pub mod Replies
pub mod Cases
