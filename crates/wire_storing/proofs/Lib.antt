-- `Turns` has the laws of one pair more, by where its two texts stand.
pub mod Turns
