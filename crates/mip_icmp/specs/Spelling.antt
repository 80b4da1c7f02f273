-- Which bytes spell an ICMPv6 message: all that a reader accepts, and those that a writer gives.
use Rattle.std.specs.Prelude.{◌≡◌, ℕ, ◌%◌, ◌≤◌, List, [], ◌∷◌, ◌++◌, length, drop, Option, Some, None, Bool, slice_index, if◌then◌else◌, ⊤}
use Rattle.mip_words.specs.Numbers.{number_at, number_bytes}
use Rattle.mip_words.specs.Addresses.{address_bytes}
use Rattle.mip_words.specs.declared.address.Address.{Address}
use Rattle.mip_ipv6.specs.Sum.{message_sum, checksum_of, with_number_at}
use Rattle.mip_icmp.specs.declared.prefix_info.PrefixInfo.{PrefixInfo}
use Rattle.mip_icmp.specs.declared.agent_info.AgentInfo.{AgentInfo}
use Rattle.mip_icmp.specs.declared.options.IcmpSet.{IcmpSet}
use Rattle.mip_icmp.specs.Fields.{least_size, identifier_at, is_agent_flag}
use Rattle.mip_icmp.specs.Options.{IsArea}
use Rattle.mip_icmp.specs.Said.{Said, Parameter, Advertisement, DiscoverAsk, DiscoverReply, PrefixAsk, PrefixReply}

abbrev pub type_of : Said → ℕ
type_of (Parameter pointer quoted) = 4
type_of (Advertisement hop agent life options) = 134
type_of (DiscoverAsk identifier) = 144
type_of (DiscoverReply identifier agents) = 145
type_of (PrefixAsk identifier) = 146
type_of (PrefixReply identifier options) = 147

-- the fields of a message stand at these places of its bytes; bits that are not named are reserved
abbrev pub IsFields : Said → List ℕ → Type 0
IsFields (Parameter pointer quoted) body = (number_at 4 4 body ≡ pointer) × (drop 8 body ≡ quoted)
IsFields (Advertisement hop agent life options) body =
    (slice_index body 4 ≡ hop) × (is_agent_flag (slice_index body 5) ≡ agent) × (number_at 2 6 body ≡ life) × IsArea options (drop 16 body)
IsFields (DiscoverAsk identifier) body = identifier_at body ≡ identifier
IsFields (DiscoverReply identifier agents) body = (identifier_at body ≡ identifier) × (drop 8 body ≡ agents) × (length agents % 16 ≡ 0)
IsFields (PrefixAsk identifier) body = identifier_at body ≡ identifier
IsFields (PrefixReply identifier options) body = (identifier_at body ≡ identifier) × IsArea options (drop 8 body)

-- these bytes between two addresses spell this message
pub record IsIcmp (source destination : Address) (m : Said) (body : List ℕ) : Type 0 where
  pub long : least_size (type_of m) ≤ length body
  pub sum : message_sum source destination 58 body % 65535 ≡ 0
  pub type : slice_index body 0 ≡ type_of m
  pub code : slice_index body 1 ≡ 0
  pub fields : IsFields m body

abbrev pub prefix_bytes : Option PrefixInfo → List ℕ
prefix_bytes None = []
prefix_bytes (Some p) =
    3 ∷ 4 ∷ p.length ∷ p.flags ∷ (number_bytes 4 p.valid ++ (number_bytes 4 p.preferred ++ (0 ∷ 0 ∷ 0 ∷ 0 ∷ address_bytes p.address)))

abbrev pub interval_bytes : Option ℕ → List ℕ
interval_bytes None = []
interval_bytes (Some n) = 7 ∷ 1 ∷ 0 ∷ 0 ∷ number_bytes 4 n

abbrev pub agent_bytes : Option AgentInfo → List ℕ
agent_bytes None = []
agent_bytes (Some a) = 8 ∷ 1 ∷ 0 ∷ 0 ∷ (number_bytes 2 a.preference ++ number_bytes 2 a.life)

unfoldable pub set_bytes : IcmpSet → List ℕ
set_bytes set = prefix_bytes set.prefix ++ (interval_bytes set.interval ++ agent_bytes set.agent)

-- the byte of flags of an advertisement
abbrev pub agent_flag : Bool → ℕ
agent_flag agent = if agent then 32 else 0

-- the canonical spelling but for the checksum, which is zero here
unfoldable pub unsummed : Said → List ℕ
unsummed (Parameter pointer quoted) = 4 ∷ 0 ∷ 0 ∷ 0 ∷ (number_bytes 4 pointer ++ quoted)
unsummed (Advertisement hop agent life options) =
    134 ∷ 0 ∷ 0 ∷ 0 ∷ hop ∷ agent_flag agent ∷ (number_bytes 2 life ++ (0 ∷ 0 ∷ 0 ∷ 0 ∷ 0 ∷ 0 ∷ 0 ∷ 0 ∷ set_bytes options))
unsummed (DiscoverAsk identifier) = 144 ∷ 0 ∷ 0 ∷ 0 ∷ (number_bytes 2 identifier ++ (0 ∷ 0 ∷ []))
unsummed (DiscoverReply identifier agents) = 145 ∷ 0 ∷ 0 ∷ 0 ∷ (number_bytes 2 identifier ++ (0 ∷ 0 ∷ agents))
unsummed (PrefixAsk identifier) = 146 ∷ 0 ∷ 0 ∷ 0 ∷ (number_bytes 2 identifier ++ (0 ∷ 0 ∷ []))
unsummed (PrefixReply identifier options) = 147 ∷ 0 ∷ 0 ∷ 0 ∷ (number_bytes 2 identifier ++ (0 ∷ 0 ∷ set_bytes options))

-- the canonical spelling between two addresses
unfoldable pub icmp_bytes : Address → Address → Said → List ℕ
icmp_bytes source destination m = with_number_at 2 (checksum_of source destination 58 (unsummed m) 2) (unsummed m)

-- a message that may be written: its list of agents is one of addresses, and it has at most 65535 bytes
abbrev pub IsWritable : Said → Type 0
IsWritable (Parameter pointer quoted) = length quoted ≤ 65527
IsWritable (DiscoverReply identifier agents) = (length agents ≤ 65527) × (length agents % 16 ≡ 0)
IsWritable _ = ⊤
