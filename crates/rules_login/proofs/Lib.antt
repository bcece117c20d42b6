-- `Along`: every call without a request leaves the login, and so what rules says of requests holds over all calls.
pub mod Along
