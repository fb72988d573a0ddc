pub mod AidStored
pub mod AidCarried
