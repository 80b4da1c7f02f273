pub mod FlagLaws
pub mod FormLaws
