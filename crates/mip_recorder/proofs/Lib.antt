pub mod Items
pub mod KeptLaws
pub mod Watching
