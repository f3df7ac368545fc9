-- Laws of digits, members, counts and searches. Other crates cite Members, Marking, Size, Within, Listed, Walk and Arrays.
pub mod Digits
pub mod Members
pub mod Marking
pub mod Size
pub mod Within
pub mod Listed
pub mod Walk
pub mod Arrays
mod Words
mod NextMark
