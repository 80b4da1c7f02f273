-- What is left to a mobile that left its link: no address, no registration, no binding, no timer, no discovery.
-- RFC 6275 sections 11.5.1 and 11.7
use Rattle.std.specs.Prelude.{◌≡◌, [], None}
use Rattle.std.specs.List.{AllByRecursion}
use Rattle.mip_rules_mobile.specs.declared.peer.Peer.{Peer}
use Rattle.mip_rules_mobile.specs.declared.attachment.Attachment.TheVariants.{Detached}
use Rattle.mip_rules_mobile.specs.Known.{Known}

abbrev pub IsUnbound : Peer → Type 0
IsUnbound p = p.bound ≡ None

pub record HasForgotten (k : Known) : Type 0 where
  pub nowhere : k.standing ≡ Detached
  pub unregistered : k.registered ≡ None
  pub unbound : AllByRecursion IsUnbound k.peers
  pub idle : k.list.timers ≡ []
  pub silent : k.discovery ≡ None
