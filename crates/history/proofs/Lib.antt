-- The proofs of what specs/ states.

-- soundness and the states of buffers
pub mod Heard
-- places, and what they count
pub mod Placed
pub mod Places
pub mod Sums
pub mod Leaving
pub mod Counted
-- holds: who is at which guard, and how far the give-ups are that carry a held buffer
pub mod Tests
pub mod Changed
pub mod Moves
pub mod Guards
pub mod Buck
pub mod Spread
pub mod Watching
pub mod Watched
pub mod Safe
-- all of it
pub mod Runs
-- what single runs come to
pub mod Computing
pub mod Examples
pub mod Played
