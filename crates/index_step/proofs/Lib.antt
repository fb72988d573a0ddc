pub mod Reaching
pub mod Passing
pub mod Stepping
pub mod Unique
