-- A configuration in memory, seen as what it holds.
pub use Rattle.mip_config.specs.Contents.{Content}
use Rattle.mip_config.specs.declared.config.Config.{Config}

abbrev pub content : Config → Content
content c = record {
  seed = c.seed;
  node = c.node;
  port = c.port;
  routes = c.routes;
  fallback = c.fallback;
  role = c.role;
  serves = c.serves;
  payloads = c.payloads;
}
