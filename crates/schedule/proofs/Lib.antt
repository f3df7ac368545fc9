pub mod Falls
pub mod Seek
pub mod Blocks
pub mod Turns
pub mod Puts
pub mod Whole
pub mod Called
pub mod Examples
