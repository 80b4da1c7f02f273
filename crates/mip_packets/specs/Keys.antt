-- The key by which a packet is authenticated, for crates above.
pub use Rattle.mip_tokens.specs.declared.kbm.Kbm.{Kbm}
