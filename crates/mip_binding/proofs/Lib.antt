pub mod RowLaws
pub mod HomeLaws
pub mod LifeLaws
pub mod HeldLaws
pub mod PlaceLaws
