pub mod Sighting
pub mod Searches
