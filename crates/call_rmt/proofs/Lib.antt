-- `Commanding` has the laws of a command's request, its reply and its call.
pub mod Commanding
