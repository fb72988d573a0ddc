pub mod Stores
pub mod Written
pub mod Parts
pub mod Plan
pub mod Content
pub mod Fitting
pub mod Places
pub mod Wants
