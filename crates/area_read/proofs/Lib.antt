pub mod Lows
pub mod Entries
pub mod Whole
pub mod Unique
