-- What is promised, on one page (`Demands`), over the engine's contracts.
pub mod Promises
pub mod Allowed
pub mod Runs
pub mod Schedules
pub mod Demands
pub mod Instances
