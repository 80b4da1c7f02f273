pub mod Agents
pub mod Turns
