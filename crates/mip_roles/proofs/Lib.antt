mod Ended
mod Heard
pub mod WholeLaws
pub mod RoleLaws
