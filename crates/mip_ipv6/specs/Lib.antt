pub mod Packet
pub mod PacketLaws
pub mod Reading
pub mod ReadingLaws
pub mod Spelling
pub mod Sum
pub mod Tunnel
pub mod TunnelLaws
