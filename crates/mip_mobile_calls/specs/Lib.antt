pub mod Inners
pub mod Rounds
pub use Rattle.mip_mobile_registration.specs.Seen
