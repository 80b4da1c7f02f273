mod HostLaws
mod SettingLaws
mod ForgingLaws
mod FittingLaws
pub mod RunLaws
