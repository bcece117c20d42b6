pub mod Bodies
pub mod Within
pub mod Sent
pub mod RoundTrip
pub mod Rows
