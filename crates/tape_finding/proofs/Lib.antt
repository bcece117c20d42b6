-- `Judging` has a turn of the judge, `Halves` what a turn of the search leaves, and how often it turns, `Found` what the search comes to.
pub mod Judging
pub mod Halves
pub mod Found
