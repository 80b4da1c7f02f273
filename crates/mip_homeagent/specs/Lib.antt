pub mod Places
pub mod Soundness
pub mod Changes
pub mod Showing
pub mod Contexts
pub mod Endings
pub mod Registering
