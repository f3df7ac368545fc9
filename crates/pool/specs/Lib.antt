-- What a reader must believe of the pool: the record, the answers in the paper's numbers, when a record is sound, and each call. `ForProofs` is no
-- part of it.
pub mod Record
pub mod Answers
pub mod Sound
pub mod Make
pub mod Checks
pub mod Begins
pub mod Questions
pub mod Steps
pub mod ForProofs
