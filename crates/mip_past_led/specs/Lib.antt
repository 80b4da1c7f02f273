pub mod Whole
pub mod Leading
pub mod Questions
