pub mod NetLaws
pub mod PostLaws
