-- A mobility message at a home agent, by what it asks.
use Rattle.std.proofs.Common.{◌≡◌, refl}
use Rattle.std.specs.Prelude.{Option, Some, None, Ok}
use Rattle.mip_words.specs.declared.why.Why.TheVariants as whys
use Rattle.mip_ipv6.specs.Packet.{Packet}
use Rattle.mip_mobhdr.specs.Said.{Said}
use Rattle.mip_mobhdr.specs.Said.Said.{Update}
use Rattle.mip_reception.specs.declared.registration.Registration.{Registration}
use Rattle.mip_reception.specs.Registrations.{registration_said}
use Rattle.mip_rules_agent.specs.Steps.{Drops}
use Rattle.mip_rules_agent.specs.Transitions.{Transition, noted}
use Rattle.mip_rules_agent.specs.Rules.{Handing, takes_update, by_role}

-- what is done about a message that asks this
abbrev pub by_asked : Handing → Option Registration → Transition → Transition
by_asked h None t = noted (Drops h.number whys.Role) t
by_asked h (Some r) t = takes_update h r t

pub role_is : (h : Handing) (p : Packet) (m : Said) (t : Transition) → by_asked h (registration_said p.head.source p.head.home (Ok m)) t ≡ by_role h p (Some m) t
role_is h p (Update s a f l k q o) t = refl
role_is h p _ t = refl
