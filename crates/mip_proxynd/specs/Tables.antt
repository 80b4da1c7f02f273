-- What a table of heard neighbour messages answers.
use Rattle.std.specs.Prelude.{◌≡◌, ℕ, List, ◌&&◌, Bool, ◌==◌, if◌then◌else◌, Option, Some, None, option_map}
use Rattle.std.specs.BTreeMap.{is_at}
use Rattle.std.specs.List.{flat_map}
use Rattle.std.specs.Map.{lookup}
use Rattle.std.specs.Option.{option_to_list}
use Rattle.std.specs.Ordering.{nat_cmp, ordering_then}
use Rattle.std.specs.declared.cmp.Ordering.{Ordering}
use Rattle.mip_words.specs.Last.{or_else, last_where}
use Rattle.mip_proxynd.specs.declared.neighbour_entry.NeighbourEntry.{NeighbourEntry}
use Rattle.mip_proxynd.specs.declared.neighbour.Neighbour.{Neighbour}
use Rattle.mip_proxynd.specs.declared.neighbour.Neighbour.TheVariants.{Solicit, Advert}
use Rattle.mip_proxynd.specs.Fields.{target_of}
use Rattle.mip_proxynd.specs.Options.{first_of}

-- a message that was heard on a link
pub record Heard : Type 0 where
  pub link : ℕ
  pub message : Neighbour

-- the link-layer address that an advertisement has, and whether it overrides
abbrev pub kept_in : Neighbour → Option NeighbourEntry
kept_in (Advert router solicited over target (Some layer)) = Some (record { layer = layer; over = over })
kept_in (Advert router solicited over target None) = None
kept_in (Solicit target layer) = None

-- this is about the address on the link
abbrev pub is_about : ℕ → ℕ → Heard → Bool
is_about link address h = h.link == link && (target_of h.message).0 == address

abbrev pub told : ℕ → ℕ → Heard → Option NeighbourEntry
told link address h = if is_about link address h then kept_in h.message else None

-- all that these messages advertise of an address on a link, in order
abbrev pub tellings : ℕ → ℕ → List Heard → List NeighbourEntry
tellings link address heard = flat_map (λ h. option_to_list (told link address h)) heard

abbrev pub is_over : NeighbourEntry → Bool
is_over kept = kept.over

-- the last one that overrides counts, or the first one where none does
abbrev pub kept_of : List NeighbourEntry → Option NeighbourEntry
kept_of ts = or_else (last_where is_over ts) (first_of ts)

-- the link-layer address of the holder of an address on a link, as heard
abbrev pub holder_of : ℕ → ℕ → List Heard → Option (List ℕ)
holder_of link address heard = option_map (λ kept. kept.layer) (kept_of (tellings link address heard))

abbrev pub TableRows : Type 0
TableRows = List ((ℕ × ℕ) × NeighbourEntry)

abbrev pub pair_cmp : ℕ × ℕ → ℕ × ℕ → Ordering
pair_cmp a b = ordering_then (nat_cmp a.0 b.0) (nat_cmp a.1 b.1)

-- what is kept of an address on a link
abbrev pub kept_at : TableRows → ℕ → ℕ → Option NeighbourEntry
kept_at rows link address = lookup (is_at (pair_cmp (link, address))) rows

-- the table is what these messages make of an empty one
abbrev pub IsTable : TableRows → List Heard → Type 0
IsTable rows heard = (link address : ℕ) → kept_at rows link address ≡ kept_of (tellings link address heard)
