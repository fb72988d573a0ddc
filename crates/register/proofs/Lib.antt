pub mod KeyFound
pub mod AddressFound
pub mod Reading
pub mod Aimed
pub mod Changing
pub mod Unique
pub mod Called
