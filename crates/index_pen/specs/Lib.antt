pub mod AidPen
pub mod AidStream
pub mod AidHeld
