-- A message of ICMPv6 as C has it.
use Rattle.std.specs.Prelude.{◌≡◌, ℕ, replicate, Bool, true, false, nat_lt, Option, Some, None, is_some, unwrap_or, Result, Ok, Err}
use Rattle.mip_words.specs.Addresses.{address_bytes}
use Rattle.mip_icmp.specs.declared.prefix_info.PrefixInfo.{PrefixInfo}
use Rattle.mip_icmp.specs.declared.agent_info.AgentInfo.{AgentInfo}
use Rattle.mip_icmp.specs.declared.options.IcmpSet.{IcmpSet}
use Rattle.mip_icmp.specs.declared.fault.IcmpFault.{IcmpFault}
use Rattle.mip_icmp.specs.declared.fault.IcmpFault.TheVariants as faults
use Rattle.mip_icmp.specs.Said.{Said}
use Rattle.mip_icmp.specs.Said.Said.{Parameter, Advertisement, DiscoverAsk, DiscoverReply, PrefixAsk, PrefixReply}
use Rattle.mip_c_icmp.specs.declared.prefix_fields.PrefixFields.{PrefixFields}
use Rattle.mip_c_icmp.specs.declared.icmp_fields.IcmpFields.{IcmpFields}

abbrev pub no_prefix : PrefixFields
no_prefix = record { length = 0; flags = 0; valid = 0; preferred = 0; address = replicate 16 0 }

abbrev pub prefix_fields : Option PrefixInfo → PrefixFields
prefix_fields None = no_prefix
prefix_fields (Some p) =
    record { length = p.length; flags = p.flags; valid = p.valid; preferred = p.preferred; address = address_bytes p.address }

abbrev pub preference_of : Option AgentInfo → ℕ
preference_of None = 0
preference_of (Some a) = a.preference

abbrev pub life_of : Option AgentInfo → ℕ
life_of None = 0
life_of (Some a) = a.life

-- a message of this kind and zeros
abbrev pub blank : ℕ → IcmpFields
blank kind = record {
  kind = kind;
  code = 0;
  pointer = 0;
  hop = 0;
  agent = false;
  life = 0;
  identifier = 0;
  rest = 0;
  has_prefix = false;
  prefix = no_prefix;
  has_interval = false;
  interval = 0;
  has_agent_info = false;
  preference = 0;
  agent_life = 0;
  place = 0;
}

-- the same with options, which begin at a place
abbrev pub with_options : ℕ → ℕ → IcmpSet → IcmpFields
with_options kind place o = record {
  kind = kind;
  code = 0;
  pointer = 0;
  hop = 0;
  agent = false;
  life = 0;
  identifier = 0;
  rest = place;
  has_prefix = is_some o.prefix;
  prefix = prefix_fields o.prefix;
  has_interval = is_some o.interval;
  interval = unwrap_or o.interval 0;
  has_agent_info = is_some o.agent;
  preference = preference_of o.agent;
  agent_life = life_of o.agent;
  place = 0;
}

-- the fields of a message. Behind the place of its data stand the packet that is quoted, the agents or the options
abbrev pub fields_of : Said → IcmpFields
fields_of (Parameter pointer quoted) = record (blank 4) { pointer = pointer; rest = 8 }
fields_of (Advertisement hop agent life options) = record (with_options 134 16 options) { hop = hop; agent = agent; life = life }
fields_of (DiscoverAsk identifier) = record (blank 144) { identifier = identifier }
fields_of (DiscoverReply identifier agents) = record (blank 145) { identifier = identifier; rest = 8 }
fields_of (PrefixAsk identifier) = record (blank 146) { identifier = identifier }
fields_of (PrefixReply identifier options) = record (with_options 147 8 options) { identifier = identifier }

-- the status of a fault
abbrev pub fault_status : IcmpFault → ℕ
fault_status faults.Short = 40
fault_status faults.Checksum = 41
fault_status (faults.Unknown kind code) = 42
fault_status (faults.Option place) = 43

-- what is unknown, or where an option is wrong
abbrev pub fault_fields : IcmpFault → IcmpFields
fault_fields faults.Short = blank 0
fault_fields faults.Checksum = blank 0
fault_fields (faults.Unknown kind code) = record (blank kind) { code = code }
fault_fields (faults.Option place) = record (blank 0) { place = place }

abbrev pub TellsRead : Result Said IcmpFault → ℕ → IcmpFields → Type 0
TellsRead (Ok m) status fields = (status ≡ 0) × (fields ≡ fields_of m)
TellsRead (Err fault) status fields = (status ≡ fault_status fault) × (fields ≡ fault_fields fault)

abbrev pub TellsIf : Bool → Result Said IcmpFault → ℕ → IcmpFields → IcmpFields → Type 0
TellsIf true read status old new = (status ≡ 14) × (new ≡ old)
TellsIf false read status old new = TellsRead read status new

-- a call tells what a reading of so many bytes gives, 14 where a packet can't have so many
abbrev pub TellsIcmp : ℕ → Result Said IcmpFault → ℕ → IcmpFields → IcmpFields → Type 0
TellsIcmp size = TellsIf (nat_lt 65535 size)
