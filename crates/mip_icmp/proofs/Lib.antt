pub mod Walking
pub mod Cuts
pub mod Choices
pub mod Areas
pub mod Messages
pub mod Canonical
