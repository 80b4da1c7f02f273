-- What is remembered of a home, as the definitions of bindings have it.
use Rattle.std.specs.Prelude.{ℕ, List, [], Option, map, option_map, if◌then◌else◌}
use Rattle.mip_words.specs.declared.address.Address.{Address}
use Rattle.mip_binding.specs.Acceptance.{Acceptance, Binding}
use Rattle.mip_binding.specs.Homes.{HomeKept, joins, number_key}
use Rattle.mip_binding.specs.Rows.{others_by}
use Rattle.mip_afresh_bindings.specs.declared.home.Home.{Home}
use Rattle.mip_afresh_bindings.specs.Accepted.{binding_seen}

abbrev pub home_seen : Home → HomeKept
home_seen h = record { home = h.home.0; sequence = h.sequence; until = h.until; live = map binding_seen h.live.items }

-- the bindings of a home that an acceptance leaves beside its own
abbrev pub left_in : HomeKept → Acceptance → List Binding
left_in kept a = if joins kept a then others_by number_key a.number kept.live else []

abbrev pub address_seen : Option Address → Option ℕ
address_seen address = option_map (λ a. a.0) address
