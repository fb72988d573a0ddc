pub mod Control
pub mod AidFront
