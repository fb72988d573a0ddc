pub mod AidOpened
