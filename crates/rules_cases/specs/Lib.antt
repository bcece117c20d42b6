pub mod Examples
pub mod EndlessCases
pub mod FirstSizeCases
pub mod EnvironmentCases
pub mod LoginCases
pub mod KnownSession
pub mod ChangerCases
pub mod RmtCases
