pub mod Texts
pub mod Layout
pub mod Laws
pub mod Scans
pub mod AddressLists
pub mod AddressCases
