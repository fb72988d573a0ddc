pub mod Best
pub mod Answers
pub mod Turns
pub mod Spreads
pub mod Intervals
pub mod Unique
pub mod Vectors
