pub mod Contexts
pub mod Rounds
pub mod Named
pub mod Inner
pub mod Fails
pub use Rattle.mip_mobile_registration.proofs.Noted
