pub mod Called
pub mod Kept
pub mod Histories
