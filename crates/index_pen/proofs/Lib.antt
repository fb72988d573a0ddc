pub mod Putting
pub mod Splicing
pub mod Fielding
pub mod Drawing
pub mod Keeping
pub mod Holding
pub mod Sectioning
pub mod Unique
