pub mod Places
pub mod ListLaws
pub mod OrderLaws
pub mod ViewLaws
pub mod ExactLaws
