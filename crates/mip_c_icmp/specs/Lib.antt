pub mod Icmps
pub mod Neighbours
