pub mod Tails
pub mod Keys
pub mod Walking
pub mod Judging
pub mod Unique
pub mod Ends
pub mod Verdicts
