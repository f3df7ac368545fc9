-- What a schedule's text is read as.
pub mod Text
pub mod Read
pub mod Examples
