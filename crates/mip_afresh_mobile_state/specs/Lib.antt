pub mod Trials
pub mod Mobiles
pub mod Turns
