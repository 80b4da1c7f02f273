pub mod Seen
pub mod Outgoing
