pub mod Choices
pub mod Areas
pub mod Messages
pub mod Canonical
pub mod ClaimLaws
pub mod TableLaws
pub mod RowLaws
pub mod PacketLaws
pub mod TellingLaws
mod Standing
