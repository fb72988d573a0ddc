pub mod Verdict
pub mod AidWalk
pub mod AidOpened
