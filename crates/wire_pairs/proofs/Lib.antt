-- `Sent` says that pairs that were written are those that are read; `Back` that the pairs of a store that was written are read back; `Only` that nothing
-- else is laid out so; `Stopped` what a count of 0 leaves and what is added for the answer; `Cases` computes the stores of specs/StoreCases.antt. `Sizes`
-- has what a store that is laid out so says, and how long what 0x404 gives can be; `Storing` the laws of judging and writing a store, `Giving` the walk
-- through its pairs and the laws of writing them.
pub mod Sent
pub mod Sizes
pub mod Back
pub mod Only
pub mod Stopped
pub mod Cases
pub mod Storing
pub mod Giving
