mod Octets
mod Backwards
mod Naming
mod Overhearing
mod Tunnelled
mod Accepted
mod Acceptances
mod Chains
