pub mod Serving
pub mod Digits
pub mod Vectors
pub mod Unique
