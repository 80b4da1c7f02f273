pub mod Packets
pub mod Messages
pub mod Authenticated
pub mod Says
pub mod Updates
pub mod Written
pub mod Keys
pub mod Ahead
