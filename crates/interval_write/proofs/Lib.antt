pub mod Written
pub mod Stores
pub mod Unique
