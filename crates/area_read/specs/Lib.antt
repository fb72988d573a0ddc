pub mod AidEntries
