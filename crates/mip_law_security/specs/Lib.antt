pub mod Octets
pub mod Backwards
pub mod Naming
pub mod Overhearing
pub mod Tunnelled
pub mod Chains
