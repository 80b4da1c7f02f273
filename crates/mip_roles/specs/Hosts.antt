-- What a declared node is, as the history has it, and which one can be run.
use Rattle.std.specs.Prelude.{◌≡◌, true, ⊤}
use Rattle.std.specs.List.{AllByRecursion}
use Rattle.mip_words.specs.Addresses.{is_routable}
use Rattle.mip_words.specs.declared.address.Address.{Address}
use Rattle.mip_history.specs.Setup.{Host, Kind as HostKind}
use Rattle.mip_history.specs.Setup.Kind.{Correspondent as OfCorrespondent, Agent as OfAgent, Mobile as OfMobile}
use Rattle.mip_roles.specs.declared.kind.Kind.{Kind}
use Rattle.mip_roles.specs.declared.kind.Kind.TheVariants.{Correspondent, Agent, Mobile}

abbrev pub kind_of : Kind → HostKind
kind_of (Correspondent room) = OfCorrespondent room
kind_of (Agent preference life room serves) = OfAgent preference life room serves.items
kind_of (Mobile agent) = OfMobile agent

-- the homes that an agent serves, and the home of a mobile, may stand in a routing header. RFC 6275 section 6.4
abbrev pub IsFitKind : Address → HostKind → Type 0
IsFitKind own (OfCorrespondent room) = ⊤
IsFitKind own (OfAgent preference life room serves) = AllByRecursion (λ a. is_routable a.0 ≡ true) serves
IsFitKind own (OfMobile agent) = is_routable own.0 ≡ true

abbrev pub IsFit : Host → Type 0
IsFit host = IsFitKind host.address host.kind
