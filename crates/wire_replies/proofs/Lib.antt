-- `Laws` has how long bodies and records are; `RoundTrip` that what is sent is read back, `Numbers` where its number
-- stands and what else a refusal has.
pub mod Laws
pub mod RoundTrip
pub mod Numbers
