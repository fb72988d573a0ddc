pub mod Pieces
pub mod Layout
pub mod Reading
pub mod Section
