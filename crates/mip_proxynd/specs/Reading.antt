-- Reading a neighbour message: the first fault that applies, or what the message says.
use Rattle.std.specs.Prelude.{ℕ, List, length, drop, Some, None, Result, Ok, Err, not, ◌||◌, ◌==◌, nat_lt, slice_index, if◌then◌else◌}
use Rattle.std.specs.Option.{option_or}
use Rattle.mip_words.specs.Steps.{◌>>=◌}
use Rattle.mip_words.specs.declared.address.Address.{Address}
use Rattle.mip_ipv6.specs.Sum.{is_right_sum}
use Rattle.mip_icmp.specs.Walk.{option_by, options_by}
use Rattle.mip_proxynd.specs.declared.layers.Layers.{Layers}
use Rattle.mip_proxynd.specs.declared.neighbour.Neighbour.{Neighbour}
use Rattle.mip_proxynd.specs.declared.neighbour.Neighbour.TheVariants.{Solicit, Advert}
use Rattle.mip_proxynd.specs.declared.fault.NeighbourFault.{NeighbourFault}
use Rattle.mip_proxynd.specs.declared.fault.NeighbourFault.TheVariants as faults
use Rattle.mip_proxynd.specs.declared.fault.NeighbourFault.TheVariants.{Hop, Short, Checksum, Unknown, Target}
use Rattle.mip_proxynd.specs.Fields.{is_known, is_group, has_flag, target_at}
use Rattle.mip_proxynd.specs.Options.{layer_at, has_units}

-- the options seen so far, with the one that begins these bytes
abbrev pub noted : Layers → List ℕ → Layers
noted seen bytes =
    if slice_index bytes 0 == 1 then record seen { source = option_or seen.source (Some (layer_at bytes)) }
    else if slice_index bytes 0 == 2 then record seen { target = option_or seen.target (Some (layer_at bytes)) }
    else seen

-- the options seen so far, with the one that begins these bytes, and how many bytes it takes
abbrev pub option_at : ℕ → Layers → List ℕ → Result (Layers × ℕ) NeighbourFault
option_at place seen bytes = option_by has_units noted faults.Option place seen bytes

-- the options of these bytes, which begin at a place of their message, after a number of bytes to pass over
abbrev pub options_after : ℕ → Layers → ℕ → List ℕ → Result Layers NeighbourFault
options_after skipped seen place bytes = options_by option_at skipped seen place bytes

abbrev pub nothing : Layers
nothing = record { source = None; target = None }

-- the options from a place of a message to its end
abbrev pub area_of : ℕ → List ℕ → Result Layers NeighbourFault
area_of start message = options_after 0 nothing start (drop start message)

-- the type of a message, after all tests that come before its options
unfoldable pub kind_of : Address → Address → ℕ → List ℕ → Result ℕ NeighbourFault
kind_of source destination hop body =
    if not (hop == 255) then Err Hop
    else if nat_lt (length body) 24 then Err Short
    else if not (is_right_sum source destination 58 body) then Err Checksum
    else if not (is_known (slice_index body 0)) || not (slice_index body 1 == 0) then Err (Unknown (slice_index body 0) (slice_index body 1))
    else if is_group (target_at body) then Err Target
    else Ok (slice_index body 0)

-- what a message of a known type says, with the link-layer addresses of its options
unfoldable pub message_in : ℕ → List ℕ → Layers → Neighbour
message_in type body layers =
    if type == 135 then Solicit (target_at body) layers.source
    else Advert (has_flag 128 body) (has_flag 64 body) (has_flag 32 body) (target_at body) layers.target

-- what a message between two addresses says, in a packet with this hop limit
unfoldable pub neighbour_of : Address → Address → ℕ → List ℕ → Result Neighbour NeighbourFault
neighbour_of source destination hop body = do
  type ← kind_of source destination hop body
  layers ← area_of 24 body
  Ok (message_in type body layers)
