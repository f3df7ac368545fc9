-- Laws of the step that callers cite.
pub mod Laws
