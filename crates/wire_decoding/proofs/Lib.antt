-- `Laws` has that the texts of a scan lie within the body, and by which layout a body with an address is scanned.
pub mod Laws
