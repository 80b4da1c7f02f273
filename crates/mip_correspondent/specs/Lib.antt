pub mod Soundness
pub mod Showing
pub mod Requirements
pub mod Inits
