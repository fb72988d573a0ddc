pub mod Placing
pub mod Runs
pub mod Halving
pub mod Starting
pub mod Gather
pub mod Unique
