pub mod Laying
pub mod Placing
pub mod NeverDamaged
pub mod Sounding
pub mod Section
pub mod Old
pub mod Vectors
