-- Words that the definitions of every crate use.
pub mod Pick
pub mod Below
pub mod Among
