pub mod Parts
pub mod Layout
pub mod Form
pub mod Reading
pub mod Divided
pub mod Need
