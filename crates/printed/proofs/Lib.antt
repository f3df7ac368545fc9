-- Laws of the line that a call prints, and worked lines.
pub mod Laws
pub mod Examples
