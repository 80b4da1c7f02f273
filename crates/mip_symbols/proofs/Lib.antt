pub mod NameLaws
pub mod PlaceLaws
pub mod Members
pub mod KindLaws
