pub mod Elements
pub mod Slots
pub mod Move
pub mod MovesHold
pub mod MoveCases
pub mod Status
pub mod StatusHolds
pub mod StatusCases
