pub mod Spelled
pub mod LongLines
