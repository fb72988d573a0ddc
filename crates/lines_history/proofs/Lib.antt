pub mod Served
pub mod Led
