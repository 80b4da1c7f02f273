pub mod Facts
pub mod Contents
pub mod Configs
pub mod ConfigsLaws
pub mod Rows
pub mod Drafts
pub mod Reading
pub mod Heads
