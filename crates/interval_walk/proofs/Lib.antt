pub mod Reading
pub mod Edges
pub mod Standing
pub mod Stepping
pub mod Seeking
pub mod Landing
pub mod Lengths
pub mod Unique
