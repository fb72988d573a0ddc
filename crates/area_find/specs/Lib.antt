pub mod AidSought
