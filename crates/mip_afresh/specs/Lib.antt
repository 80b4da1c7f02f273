pub mod Told
pub mod Tellings
pub mod Roles
pub mod Fates
pub mod Arrivals
pub mod Leavings
