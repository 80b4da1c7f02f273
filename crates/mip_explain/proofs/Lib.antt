pub mod LineLaws
pub mod Packets
