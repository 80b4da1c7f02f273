pub mod Early
pub mod Left
pub mod Rows
