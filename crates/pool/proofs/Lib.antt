-- Laws of the pool's definitions. What they keep and show besides the contracts is in the crate `rules`.

-- what a check found, and a sound record part by part
pub mod Told
pub mod Firsts
pub mod Parts
pub mod Checked
pub mod Standing
-- for the code: soundness, begins, questions
pub mod Labels
pub mod Scans
pub mod GiveUps
pub mod Audit
-- for the code: the advance
pub mod Handed
pub mod Slots
pub mod Back
pub mod Dispatch
