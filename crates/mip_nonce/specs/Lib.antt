pub mod Secrets
pub mod Window
