pub mod Canonical
pub mod Headers
pub mod OptionLaws
pub mod Packets
pub mod Placed
pub mod Sums
pub mod Walking
pub mod Tunnels
