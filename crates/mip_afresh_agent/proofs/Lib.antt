pub mod ShowingLaws
mod Roles
mod CallLaws
mod Pasts
mod Put
