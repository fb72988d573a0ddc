pub mod AidLooked
