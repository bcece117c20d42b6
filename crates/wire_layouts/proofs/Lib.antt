-- `Back` and `Spelling` hold the laws of every layout; `Within` that the texts of a scan lie within the body; `AddressLists` that the host is
-- given the addresses that are read; `AddressTypes` which type an address has.
pub mod Spelling
pub mod Back
pub mod Within
pub mod Unread
pub mod AddressLists
pub mod AddressTypes
