pub mod AidSteps
pub mod AidGives
pub mod AidStands
pub mod Refusals
pub mod Wrong
