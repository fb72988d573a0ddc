pub mod AidStream
pub mod AidDivided
