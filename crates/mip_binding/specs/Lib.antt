pub mod Acceptance
pub mod AcceptanceLaws
pub mod Rows
pub mod Homes
pub mod Held
pub mod HeldLaws
