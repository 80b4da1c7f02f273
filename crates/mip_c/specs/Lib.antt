pub mod Listings
pub mod Messages
pub mod Options
pub mod PacketWriting
pub mod Packets
pub mod Sums
pub mod Tunnels
