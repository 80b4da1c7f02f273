-- The mark of an acceptance: forged with the lowest cause that holds, or its origin. RFC 6275 section 5.2
use Rattle.std.specs.Prelude.{ℕ, List, if◌then◌else◌, Option, Some, None, option_map}
use Rattle.mip_words.specs.declared.address.Address.{Address}
use Rattle.mip_packets.specs.Says.{UpdateIdentity}
use Rattle.mip_entries.specs.declared.entry.Entry.{Entry}
use Rattle.mip_provenance.specs.declared.accepted_update.AcceptedUpdate.{AcceptedUpdate}
use Rattle.mip_provenance.specs.declared.mark.Mark.{Mark}
use Rattle.mip_provenance.specs.declared.mark.Mark.TheVariants.{Origin, Forged}
use Rattle.mip_provenance.specs.Entries.{declared_in}
use Rattle.mip_provenance.specs.Sights.{Sight, sights}
use Rattle.mip_provenance.specs.Names.{first_sent}
use Rattle.mip_provenance.specs.Firsts.{Post, post_at, key_at, first_update}
use Rattle.mip_provenance.specs.Pairs.{Pair, gives, pair_by}
use Rattle.mip_provenance.specs.Causes.{Claim, home_claim, careof_claim, is_used_early, is_named_otherwise}

-- the first packets with the tokens under their names, and the first packet of the update
abbrev pub origin_of : List Sight → Claim → Option Claim → ℕ → Mark
origin_of seen home careof update =
    Origin (first_sent seen home.token home.name) (option_map (λ c. first_sent seen c.token c.name) careof) update

-- causes 2 and 3
abbrev pub by_claims : List Sight → Claim → Option Claim → ℕ → Mark
by_claims seen home careof update =
    if is_used_early seen home careof then Forged 2
    else if is_named_otherwise seen home careof then Forged 3
    else origin_of seen home careof update

-- cause 1: the maker of the first packet has no pair
abbrev pub by_pair : List Sight → AcceptedUpdate → ℕ → Option Pair → Mark
by_pair seen a update None = Forged 1
by_pair seen a update (Some pair) = by_claims seen (home_claim seen a pair.home) (careof_claim seen a pair) update

abbrev pub by_post : List Sight → AcceptedUpdate → Address → UpdateIdentity → ℕ → Option Post → Mark
by_post seen a own key update None = Forged 1
by_post seen a own key update (Some post) =
    by_pair seen a update (pair_by seen a.careof_index (gives own a.careof key) update post.maker)

abbrev pub by_first : List Sight → AcceptedUpdate → Address → UpdateIdentity → Option ℕ → Mark
by_first seen a own key None = Forged 1
by_first seen a own key (Some update) = by_post seen a own key update (post_at seen update)

abbrev pub by_key : List Sight → AcceptedUpdate → Address → Option UpdateIdentity → Mark
by_key seen a own None = Forged 1
by_key seen a own (Some key) = by_first seen a own key (first_update seen key)

-- a node without an address of its own, and a packet without an update, have cause 1 too
unfoldable pub mark_of : List Sight → AcceptedUpdate → Option Address → Mark
mark_of seen a None = Forged 1
mark_of seen a (Some own) = by_key seen a own (key_at seen a.number)

-- the mark of an update that is accepted behind this history
unfoldable pub mark_in : List Entry → AcceptedUpdate → Mark
mark_in past a = mark_of (sights past) a (declared_in past a.node.0)
