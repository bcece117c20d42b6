-- `Handing` has what leads from the callees to what a move from tape says, and from its tests to the facts that it leans on.
pub mod Handing
