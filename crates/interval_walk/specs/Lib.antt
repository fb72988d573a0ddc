pub mod AidSpots
