-- `Framing` has what a record was found to be, `Routing` the laws of requests at their services.
pub mod Framing
pub mod Routing
