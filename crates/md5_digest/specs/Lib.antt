pub mod Md5
pub mod Login
pub mod Cases
