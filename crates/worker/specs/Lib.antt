-- What the contracts of worker cite.
pub mod Registers
pub mod Steps
