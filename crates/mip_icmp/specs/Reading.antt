-- Reading an ICMPv6 message: the first fault that applies, or what the message says.
use Rattle.std.specs.Prelude.{ℕ, ◌%◌, List, length, drop, Option, Some, None, Result, Ok, Err, not, ◌||◌, ◌==◌, nat_lt, slice_index, if◌then◌else◌}
use Rattle.std.specs.Option.{option_or}
use Rattle.mip_words.specs.Numbers.{number_at}
use Rattle.mip_words.specs.Steps.{◌>>=◌}
use Rattle.mip_words.specs.declared.address.Address.{Address}
use Rattle.mip_ipv6.specs.Sum.{is_right_sum}
use Rattle.mip_icmp.specs.declared.prefix_info.PrefixInfo.{PrefixInfo}
use Rattle.mip_icmp.specs.declared.options.IcmpSet.{IcmpSet}
use Rattle.mip_icmp.specs.declared.fault.IcmpFault.{IcmpFault}
use Rattle.mip_icmp.specs.declared.fault.IcmpFault.TheVariants as faults
use Rattle.mip_icmp.specs.declared.fault.IcmpFault.TheVariants.{Short, Checksum, Unknown}
use Rattle.mip_icmp.specs.Fields.{least_size, is_known, identifier_at, is_agent_flag}
use Rattle.mip_icmp.specs.Walk.{option_by, options_by}
use Rattle.mip_icmp.specs.Options.{prefix_at, interval_at, agent_at, has_units}
use Rattle.mip_icmp.specs.Said.{Said, Parameter, Advertisement, DiscoverAsk, DiscoverReply, PrefixAsk, PrefixReply}

-- which of two prefixes counts
abbrev pub preferred_of : Option PrefixInfo → PrefixInfo → PrefixInfo
preferred_of None later = later
preferred_of (Some earlier) later = if earlier.length == 64 || not (later.length == 64) then earlier else later

-- the options seen so far, with the one that begins these bytes
abbrev pub noted : IcmpSet → List ℕ → IcmpSet
noted seen bytes =
    if slice_index bytes 0 == 3 then record seen { prefix = Some (preferred_of seen.prefix (prefix_at bytes)) }
    else if slice_index bytes 0 == 7 then record seen { interval = option_or seen.interval (Some (interval_at bytes)) }
    else if slice_index bytes 0 == 8 then record seen { agent = option_or seen.agent (Some (agent_at bytes)) }
    else seen

-- the options seen so far, with the one that begins these bytes, and how many bytes it takes
abbrev pub option_at : ℕ → IcmpSet → List ℕ → Result (IcmpSet × ℕ) IcmpFault
option_at place seen bytes = option_by has_units noted faults.Option place seen bytes

-- the options of these bytes, which begin at a place of their message, after a number of bytes to pass over
abbrev pub options_after : ℕ → IcmpSet → ℕ → List ℕ → Result IcmpSet IcmpFault
options_after skipped seen place bytes = options_by option_at skipped seen place bytes

abbrev pub nothing : IcmpSet
nothing = record { prefix = None; interval = None; agent = None }

-- the options from a place of a message to its end
abbrev pub area_of : ℕ → List ℕ → Result IcmpSet IcmpFault
area_of start message = options_after 0 nothing start (drop start message)

-- the type of a message, after all tests that come before its fields
unfoldable pub kind_of : Address → Address → List ℕ → Result ℕ IcmpFault
kind_of source destination body =
    if nat_lt (length body) (least_size (slice_index body 0)) then Err Short
    else if not (is_right_sum source destination 58 body) then Err Checksum
    else if not (is_known (slice_index body 0)) || not (slice_index body 1 == 0) then Err (Unknown (slice_index body 0) (slice_index body 1))
    else Ok (slice_index body 0)

-- RFC 4443 section 3.4
unfoldable pub parameter_in : List ℕ → Said
parameter_in body = Parameter (number_at 4 4 body) (drop 8 body)

-- RFC 4861 section 4.2, RFC 6275 section 7.1
unfoldable pub advertisement_in : List ℕ → Result Said IcmpFault
advertisement_in body = do
  options ← area_of 16 body
  Ok (Advertisement (slice_index body 4) (is_agent_flag (slice_index body 5)) (number_at 2 6 body) options)

-- RFC 6275 section 6.6
unfoldable pub agents_in : List ℕ → Result Said IcmpFault
agents_in body =
    if length (drop 8 body) % 16 == 0 then Ok (DiscoverReply (identifier_at body) (drop 8 body))
    else Err (faults.Option 8)

-- RFC 6275 section 6.8
unfoldable pub prefixes_in : List ℕ → Result Said IcmpFault
prefixes_in body = do
  options ← area_of 8 body
  Ok (PrefixReply (identifier_at body) options)

-- the fields of a message of a known type
unfoldable pub fields_in : ℕ → List ℕ → Result Said IcmpFault
fields_in type body =
    if type == 4 then Ok (parameter_in body)
    else if type == 134 then advertisement_in body
    else if type == 144 then Ok (DiscoverAsk (identifier_at body))
    else if type == 145 then agents_in body
    else if type == 146 then Ok (PrefixAsk (identifier_at body))
    else prefixes_in body

-- what a message between two addresses says
unfoldable pub icmp_of : Address → Address → List ℕ → Result Said IcmpFault
icmp_of source destination body = do
  type ← kind_of source destination body
  fields_in type body
