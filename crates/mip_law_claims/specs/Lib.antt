pub mod Seekers
pub mod Claimings
pub mod Holdings
