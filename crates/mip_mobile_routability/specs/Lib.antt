pub mod Updates
pub mod Waits
