pub mod Framing
pub mod Routing
pub mod Failing
pub mod Lending
pub mod Sending
pub mod Calling
