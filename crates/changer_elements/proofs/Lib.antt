-- They serve the crates above too: `Laws` has the laws of elements and of the tests of a move, `Staying` what a move
-- leaves of a slot list of any length, `Bytes` the laws of the layouts. `Counts`, `Moves`, `Senses` and `Lists` serve
-- `MovesHold` and `StatusHolds`.
pub mod Laws
pub mod Counts
pub mod Moves
pub mod Senses
pub mod Staying
pub mod MovesHold
pub mod MoveCases
pub mod Lists
pub mod Bytes
pub mod StatusHolds
pub mod StatusCases
