pub mod Acceptances
pub use Rattle.mip_history.specs.Found
pub use Rattle.mip_history.specs.Told
pub use Rattle.mip_history.specs.Settled
