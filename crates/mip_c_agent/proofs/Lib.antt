-- The lemmas of this crate.
pub mod HeldValues
pub mod Rooms
