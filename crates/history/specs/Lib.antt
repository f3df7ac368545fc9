-- What a history says, and what is shown of every run.
pub mod States
pub mod Counts
pub mod Holds
pub mod History
pub mod Safe
pub mod Runs
pub mod Examples
