pub mod Heard
pub mod Listed
pub mod ListedLaws
pub mod Reply
pub mod Plan
pub mod Retries
