pub mod Reached
pub mod Members
pub mod Rows
pub mod Plain
pub mod Routers
pub mod Waits
pub mod AgentCalls
pub mod MobileCalls
