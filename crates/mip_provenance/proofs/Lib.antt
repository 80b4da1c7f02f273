pub mod ListLaws
pub mod Tokens
pub mod Pairing
pub mod Tracing
pub mod Plain
pub mod Standing
pub mod Originating
mod Means
pub mod Covered
mod KeyLaws
