-- What is played of a text, and what it prints.
pub mod Turns
pub mod Transcript
