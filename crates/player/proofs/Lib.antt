pub mod Judged
pub mod Turned
pub mod ReadBack
pub mod Whole
pub mod Example
