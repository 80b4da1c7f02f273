pub mod Entering
pub mod Lengths
pub mod Noted
pub mod Outs
pub mod PartSteps
