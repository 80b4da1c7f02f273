pub mod Messages
pub mod Canonical
pub mod Drafts
pub mod OptionWalking
pub mod OptionTaking
pub mod OptionsAgain
pub mod PaddingLaws
pub mod OptionsCanonical
