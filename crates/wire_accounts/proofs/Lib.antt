-- `Laws` has the laws of one account by where it stands, of so many of them one by one, and of who gets in; `Entries` how
-- many there are and of which kinds; `Written` that accounts that were written are read back; `Cases` and `Holds` prove the
-- statements of those names.
pub mod Laws
pub mod Entries
pub mod Written
pub mod Cases
pub mod Holds
