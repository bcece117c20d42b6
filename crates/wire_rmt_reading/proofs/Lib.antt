-- `Laws` has the laws of the readers' loops and tests; `Within` that a path and data lie within the command.
pub mod Laws
pub mod Within
