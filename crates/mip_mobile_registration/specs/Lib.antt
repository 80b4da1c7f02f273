pub use Rattle.mip_mobile_context.specs.Seen
