pub mod Choice
pub mod Lists
pub mod Bytes
pub mod Order
pub mod Table
