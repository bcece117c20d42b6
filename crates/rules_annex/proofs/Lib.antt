-- `Calls` has what a call does to the tape and the image, `Used` the growth of the bytes in use, `Records` a tape of records of one size, `Backup` what a
-- backup leaves there, `Rewind` an accepted rewind, `Along` where a recover stands and that calls beside its moves keep it there, `Recover` what it hands
-- over, `Trip` the whole; `Deciding` decides the premises, for the instance of `Example`.
pub mod Calls
pub mod Used
pub mod Records
pub mod Backup
pub mod Rewind
pub mod Along
pub mod Recover
pub mod Trip
pub mod Deciding
pub mod Example
