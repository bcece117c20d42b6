-- `Laws` has the laws of room, of what is kept and of filled records, `Theorems` what a write leaves.
pub mod Laws
pub mod Theorems
