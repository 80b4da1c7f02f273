pub mod Asks
pub mod Answers
