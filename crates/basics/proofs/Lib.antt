-- Laws of the words in specs/.
pub mod Truth
pub mod Picks
pub mod All
pub mod Any
pub mod Count
pub mod Different
pub mod Table
