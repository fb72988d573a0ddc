pub mod AidStep
pub mod AidEntries
