pub mod AidTold
pub mod AidChange
