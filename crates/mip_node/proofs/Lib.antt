pub mod Configured
pub mod RunLaws
pub mod Growing
pub mod Coming
pub mod TurnLaws
pub mod Apart
pub mod Ends
pub mod Told
pub mod Placing
mod Calling
mod Steps
