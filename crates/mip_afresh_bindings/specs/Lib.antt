pub mod Accepted
pub mod Homes
pub mod Counting
pub mod Keeping
pub mod Showing
