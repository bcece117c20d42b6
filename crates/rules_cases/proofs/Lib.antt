-- `Cases` has the computed cases, `LoginCases` those of logins, `ChangerCases` those of the changer, `RmtCases` those of commands of the remote tape protocol,
-- `KnownSession` the calls that lead to where the others begin.
pub mod Cases
pub mod LoginCases
pub mod KnownSession
pub mod ChangerCases
pub mod RmtCases
