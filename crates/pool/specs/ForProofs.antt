-- Nothing below has to be believed. The contracts of private functions and the proofs cite it; it stands here because a contract can cite only
-- `specs/`. No public call's contract names any of it.
pub mod Calls
pub mod Ready
pub mod Scans
pub mod Searches
