pub mod Benches
pub mod Keys
