pub mod Content
pub mod Soundness
pub mod Reading
pub mod Layout
pub mod Roles
pub mod Example
pub mod Checked
pub mod Leads
