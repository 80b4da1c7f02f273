pub mod ShowingLaws
pub mod Benches
pub mod Parts
pub mod Receivings
pub mod Rows
pub mod CallTransitions
