-- Laws and invariants of Configs: only proofs stand on them.
use Rattle.mip_config.specs.declared.config_reading.Parts.{Parts}
use Rattle.mip_config.specs.Contents.{Content}

abbrev pub parts_content : Parts → Content
parts_content c = record {
  seed = c.seed;
  node = c.node;
  port = c.port;
  routes = c.routes;
  fallback = c.fallback;
  role = c.role;
  serves = c.serves;
  payloads = c.payloads;
}
