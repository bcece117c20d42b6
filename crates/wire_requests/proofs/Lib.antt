-- `Within` says that the texts of a decoded request lie within its body; `RoundTrip` that a body of 004 is read as it says, by `Sent`, which
-- ties its fields to the layout, and `Starts`, which finds the pairs of a start request; `Spelling` that a body has no second spelling.
pub mod Laws
pub mod Within
pub mod Sent
pub mod Starts
pub mod RoundTrip
pub mod Spelling
