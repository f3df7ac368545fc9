-- The proofs of what specs/Demands.antt states; those of the functions that promise it cite them.
pub mod OneToOne
pub mod Steps
pub mod Demand1
pub mod Demand2
pub mod Demand3
pub mod Request101
pub mod Request102
pub mod FromThePage
