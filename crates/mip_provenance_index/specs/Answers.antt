-- The mark of an acceptance by look-ups.
use Rattle.std.specs.Prelude.{ℕ, List, take, Bool, ◌||◌, false, if◌then◌else◌, Option, Some, None, option_map}
use Rattle.std.specs.Option.{option_and_then, option_map_or}
use Rattle.mip_words.specs.declared.address.Address.{Address}
use Rattle.mip_packets.specs.Says.{UpdateIdentity, carried}
use Rattle.mip_provenance.specs.declared.accepted_update.AcceptedUpdate.{AcceptedUpdate}
use Rattle.mip_provenance.specs.declared.maker.Maker.{Maker}
use Rattle.mip_provenance.specs.declared.maker.Maker.TheVariants.{Node, Outsider}
use Rattle.mip_provenance.specs.declared.mark.Mark.{Mark}
use Rattle.mip_provenance.specs.declared.mark.Mark.TheVariants.{Origin, Forged}
use Rattle.mip_provenance.specs.Lists.{if_passes}
use Rattle.mip_provenance.specs.Firsts.{key_in}
use Rattle.mip_provenance.specs.Pairs.{Pair, gives, as_asked, first_pair}
use Rattle.mip_provenance.specs.Causes.{Claim, home_claim_in, careof_claim_with}
use Rattle.mip_provenance_index.specs.declared.first.First.{First}
use Rattle.mip_provenance_index.specs.declared.provenance_index.ProvenanceIndex.{ProvenanceIndex}
use Rattle.mip_provenance_index.specs.Nodes.{known_at}
use Rattle.mip_provenance_index.specs.Names.{kept_at, is_otherwise, number_kept}
use Rattle.mip_provenance_index.specs.Heard.{heard_by}
use Rattle.mip_provenance_index.specs.Early.{is_used}
use Rattle.mip_provenance_index.specs.Made.{made_at}
use Rattle.mip_provenance_index.specs.Updates.{update_at}
use Rattle.mip_provenance_index.specs.Addresses.{address_at}

-- the pair behind the first packet of an update, by who posted it
abbrev pub pair_by_maker : ProvenanceIndex → Option ℕ → (Pair → Bool) → First → Maker → Option Pair
pair_by_maker w careof test first (Node node) = option_and_then (if_passes test) (option_and_then (as_asked careof) (made_at w.made node.0 first.number))
pair_by_maker w careof test first (Outsider outsider) = first_pair careof test (heard_by outsider (take first.heard w.heard.list.items))

-- cause 2
abbrev pub is_used_by : ProvenanceIndex → Claim → Option Claim → Bool
is_used_by w home careof = is_used w.early home.token || option_map_or (λ c. is_used w.early c.token) careof false

-- cause 3
abbrev pub is_otherwise_by : ProvenanceIndex → Claim → Option Claim → Bool
is_otherwise_by w home careof =
    is_otherwise home.name (kept_at w.names home.token) || option_map_or (λ c. is_otherwise c.name (kept_at w.names c.token)) careof false

abbrev pub claims_looked : ProvenanceIndex → Claim → Option Claim → ℕ → Mark
claims_looked w home careof update =
    if is_used_by w home careof then Forged 2
    else if is_otherwise_by w home careof then Forged 3
    else Origin (number_kept (kept_at w.names home.token)) (option_map (λ c. number_kept (kept_at w.names c.token)) careof) update

abbrev pub pair_looked : ProvenanceIndex → AcceptedUpdate → ℕ → Option Pair → Mark
pair_looked w a update None = Forged 1
pair_looked w a update (Some pair) =
    claims_looked w (home_claim_in (known_at w.nodes a.node.0).life a pair.home) (careof_claim_with (known_at w.nodes a.node.0).life a pair.careof a.careof_index) update

abbrev pub first_looked : ProvenanceIndex → AcceptedUpdate → Address → UpdateIdentity → Option First → Mark
first_looked w a own key None = Forged 1
first_looked w a own key (Some first) = pair_looked w a first.number (pair_by_maker w a.careof_index (gives own a.careof key) first first.maker)

abbrev pub key_looked : ProvenanceIndex → AcceptedUpdate → Address → Option UpdateIdentity → Mark
key_looked w a own None = Forged 1
key_looked w a own (Some key) = first_looked w a own key (update_at w.updates a.number)

abbrev pub own_looked : ProvenanceIndex → AcceptedUpdate → Option (List ℕ) → Option Address → Mark
own_looked w a packet None = Forged 1
own_looked w a packet (Some own) = key_looked w a own (option_and_then (λ bytes. key_in (carried bytes)) packet)

-- the mark by look-ups, where the accepted packet has these bytes
unfoldable pub mark_looked : ProvenanceIndex → AcceptedUpdate → Option (List ℕ) → Mark
mark_looked w a packet = own_looked w a packet (address_at w.addresses a.node.0)
