pub mod AidChanged
