pub mod Cause
pub mod Moments
pub mod Datagrams
pub mod Failing
pub mod LinkCalls
pub mod Places
pub mod Waiting
pub mod Wires
