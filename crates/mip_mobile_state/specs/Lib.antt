pub mod Seen
pub mod Mine
pub mod Early
