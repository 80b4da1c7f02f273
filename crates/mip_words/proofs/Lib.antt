pub mod Fields
pub mod HexLaws
pub mod StepLaws
pub mod AddressLaws
pub mod HolderLaws
pub mod LastLaws
pub mod EachLaws
