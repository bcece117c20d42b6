-- `Lists` has the laws of files and of chosen entries, `Laid` what entries written one after the other leave, `Holds` the promises.
pub mod Lists
pub mod Laid
pub mod Holds
pub mod Cases
