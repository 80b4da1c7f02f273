pub mod Addresses
pub mod AnswerQueues
pub mod Answered
pub mod Calls
pub mod Giving
pub mod Keeping
pub mod Moments
pub mod Whys
