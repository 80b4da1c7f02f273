pub mod Names
pub mod Places
pub mod Kinds
pub mod Spelled
pub mod Faults
