mod FrameLaws
mod SendingLaws
pub mod Listening
