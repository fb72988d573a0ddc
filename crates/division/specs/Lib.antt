pub mod Division
pub mod AidChoose
pub mod Fewest
