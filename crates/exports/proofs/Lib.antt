pub mod Unique
pub mod Adding
pub mod UniqueWalks
