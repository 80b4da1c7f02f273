pub mod Handles
pub mod Neighbourhoods
pub mod Registrations
pub mod Shields
pub mod Sixteens
pub mod Stations
