pub mod Opening
pub mod Unique
