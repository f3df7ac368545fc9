-- What is shown of the pool's rules.
pub mod Calls
pub mod Cases
pub mod Lent
-- a made pool, and what every call keeps
pub mod Fresh
pub mod Kept
pub mod Shaped
pub mod Refused
pub mod Frame
-- the sentences of the paper, one by one
pub mod Sentences
pub mod Unsound
