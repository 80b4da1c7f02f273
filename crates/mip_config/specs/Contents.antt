-- What a configuration holds.
use Rattle.std.specs.Prelude.{ℕ, List, Option}
use Rattle.mip_words.specs.declared.address.Address.{Address}
use Rattle.mip_words.specs.declared.ids.NodeId.{NodeId}
use Rattle.mip_frames.specs.declared.route.Route.{Route}
use Rattle.mip_config.specs.declared.payload.Payload.{Payload}
use Rattle.mip_config.specs.declared.role.Role.{Role}

pub record Content : Type 0 where
  pub seed : List ℕ
  pub node : NodeId
  pub port : ℕ
  pub routes : List Route
  pub fallback : Option ℕ
  pub role : Role
  pub serves : List Address
  pub payloads : List Payload
