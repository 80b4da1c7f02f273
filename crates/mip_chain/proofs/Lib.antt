pub mod Cells
pub mod Paths
pub mod ItemLaws
pub mod Items
pub mod Moves
pub mod Fills
pub mod Places
pub mod Chains
