-- What rules above name of the cache.
pub use Rattle.mip_bcache.specs.declared.accepted.Accepted.{Accepted}
pub use Rattle.mip_bcache.specs.Seen.{CacheSeen}
