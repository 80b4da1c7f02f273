pub mod HomeShows
pub mod Seeking
pub use Rattle.mip_mobile_context.proofs.Noted
