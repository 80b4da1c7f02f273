pub mod Handling
pub mod Performing
pub mod Placing
pub mod Claiming
pub mod Stations
