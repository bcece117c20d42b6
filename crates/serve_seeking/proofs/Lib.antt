-- `Walk` has the walk to a record, case by case.
pub mod Walk
