pub mod HomeLaws
pub mod CountLaws
pub mod KeptLaws
pub mod ShownLaws
