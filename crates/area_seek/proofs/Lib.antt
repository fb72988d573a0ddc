pub mod Seeking
pub mod Unique
