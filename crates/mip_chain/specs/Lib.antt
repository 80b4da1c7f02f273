pub mod Chain
pub mod Ring
