-- `Cases` has which case of a field holds, by what the code found; `Scan` the scan, one field on.
pub mod Cases
pub mod Scan
