-- `Ending` has where a window ends, `Addressing` which address types are wrong and which ends have a partner.
pub mod Ending
pub mod Addressing
