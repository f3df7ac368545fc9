pub mod Laws
pub mod Digits
pub mod Tally
pub mod Said
pub mod Lawful
