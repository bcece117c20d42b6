-- `Laws` has the laws of soundness, `Writes` what an entry or bytes of the body that are written leave. They serve the crates above too.
pub mod Laws
pub mod Writes
