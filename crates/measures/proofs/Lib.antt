pub mod Sizes
pub mod Fine
pub mod Width
pub mod Edges
pub mod Unique
