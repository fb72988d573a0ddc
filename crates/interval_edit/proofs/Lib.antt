pub mod Edits
pub mod Moves
pub mod Unique
