pub mod Asking
mod Rounds
