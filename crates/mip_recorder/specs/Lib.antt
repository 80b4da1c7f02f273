pub mod Packets
pub mod Watched
pub mod Given
pub mod Kept
