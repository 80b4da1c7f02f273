pub mod Lists
pub mod Rows
pub mod Runs
pub mod Slots
pub mod Timers
pub mod Trials
