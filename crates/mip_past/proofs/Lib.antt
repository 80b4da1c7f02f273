pub mod Recalling
mod Standing
pub mod AtPlaces
pub mod Examples
pub mod OneNumber
pub mod Holding
mod Leaving
pub mod Sending
pub mod Silent
pub mod Telling
pub mod AgentWalk
pub mod EndsTold
pub mod AgentsHeard
pub mod PlansKept
pub mod PlacesTold
pub mod Premises
pub mod ThroughTold
