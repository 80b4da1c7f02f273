mod Walks
pub mod Standing
