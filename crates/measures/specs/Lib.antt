pub mod Sizes
pub mod Judgement
pub mod Edges
