pub mod Showing
pub mod Keeping
pub mod Judging
