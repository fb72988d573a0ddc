pub mod Controls
pub mod Rdfs
pub mod Fronts
pub mod Unique
