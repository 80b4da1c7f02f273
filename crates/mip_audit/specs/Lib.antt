pub mod Lines
pub mod Cutting
pub mod Differences
pub mod DifferencesLaws
pub mod EntryNumbers
pub mod Places
