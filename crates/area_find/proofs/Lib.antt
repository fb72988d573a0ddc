pub mod Readables
pub mod Addresses
pub mod Unique
