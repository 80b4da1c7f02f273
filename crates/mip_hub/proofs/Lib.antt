mod KeptLaws
mod AdvertLaws
pub mod CallLaws
mod LineLaws
mod TurnLaws
pub mod RunLaws
mod PassingLaws
mod HubRules
