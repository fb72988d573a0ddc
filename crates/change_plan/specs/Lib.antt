pub mod AidEdited
pub mod AidParts
pub mod AidPlanned
