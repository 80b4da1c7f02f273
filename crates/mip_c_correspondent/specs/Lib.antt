pub mod Handles
pub mod Rows
pub mod Stations
