-- `Laws` has bodies and records by the writes that make them.
pub mod Laws
