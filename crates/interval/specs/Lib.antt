pub mod Records
pub mod Layout
pub mod Reading
pub mod Search
pub mod Role
pub mod Bounds
