pub mod Contracts
pub mod Unique
pub mod Promised
