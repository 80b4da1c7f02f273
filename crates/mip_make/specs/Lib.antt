pub mod Network
pub mod Draws
pub mod Drawn
pub mod Made
pub mod MadeLaws
pub mod Summaries
pub mod Counting
