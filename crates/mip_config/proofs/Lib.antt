pub mod LineLaws
pub mod KeptLaws
