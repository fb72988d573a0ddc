pub mod AidPasses
