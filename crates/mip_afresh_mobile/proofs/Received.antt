-- A packet that was read is checked by what the correspondent part keeps of what it asks.
use Rattle.std.proofs.Common.{◌≡◌, ℕ, List, Bool, true, false, refl, sym, ap, subst, ◌∙◌, if◌then◌else◌}
use Rattle.std.specs.Prelude.{Option, Some, None, Result, Ok, IsTrue}
use Rattle.mip_words.specs.declared.address.Address.{Address}
use Rattle.mip_words.specs.declared.why.Why.TheVariants as whys
use Rattle.mip_ipv6.specs.declared.head.Head.{Head}
use Rattle.mip_ipv6.specs.Packet.{Packet, is_routable_if_any}
use Rattle.mip_ipv6.specs.Reading.{packet_of}
use Rattle.mip_ipv6.specs.Tunnel.{opened}
use Rattle.mip_ipv6.proofs.Packets.{packet_takes}
use Rattle.mip_ipv6.proofs.Placed.{home_routable}
use Rattle.mip_mobhdr.specs.Said.{Said}
use Rattle.mip_reception.specs.declared.refusal.Refusal.{Refusal}
use Rattle.mip_reception.specs.declared.address_match.AddressMatch.{AddressMatch}
use Rattle.mip_reception.specs.Checks.{checked}
use Rattle.mip_rules_correspondent.specs.declared.known.Known as parts
use Rattle.mip_rules_correspondent.specs.Rules.{holds_option, place_in}
use Rattle.mip_rules_mobile.specs.ReceivingRules.{inner_standing}
use Rattle.mip_rules_mobile.specs.Steps.{Drops}
use Rattle.mip_rules_mobile.specs.Transitions.{Transition, noted}
use Rattle.mip_rules_mobile.proofs.Checks.{opened-reads}
use Rattle.mip_afresh_rules.specs.declared.kept.Kept.{Kept}
use Rattle.mip_afresh_rules.specs.Keeping.{holds_home, IsKept}
use Rattle.mip_afresh_mobile_state.specs.declared.turn.Turn.{Turn}
use Rattle.mip_afresh_mobile_state.specs.Turns.{Shows}
use Rattle.mip_bcache.specs.Seen.{CacheSeen}
use Rattle.mip_afresh_mobile.specs.declared.arrival.Arrival.{Arrival}
use Rattle.mip_afresh_mobile.specs.declared.handed.Handed.{Handed}
use Rattle.mip_afresh_mobile.specs.Asking.{handed_as}
use Rattle.mip_afresh_mobile.specs.Nodes.{AreAccepted}
use Rattle.mip_afresh_mobile.specs.Tunnels.{first_fault, unless_fault}
use Rattle.mip_afresh_mobile.proofs.Turned.{shows-now}

-- what comes out of a tunnel is what its bytes read as, and its Home Address option is routable, where one stands
pub inner_reads : (agent : Address) (p q : Packet) → opened agent p ≡ Ok q → packet_of p.body ≡ Ok q
inner_reads agent p q opens = opened-reads agent p q opens

pub inner_plain : (agent : Address) (p q : Packet) → opened agent p ≡ Ok q → IsTrue (is_routable_if_any q.head.home)
inner_plain agent p q opens = home_routable q p.body (packet_takes p.body q (opened-reads agent p q opens))

holds-same : (k : parts.Known) (now : ℕ) (source : Address) (home : Option Address) → holds_option k now source home ≡ holds_home k.cache now source home
holds-same k now source None = refl
holds-same k now source (Some home) = refl

-- whether the binding of a Home Address option stands
pub kept-holds : (turn : Turn) (t : Transition) (kept : Kept) (source : Address) (home : Option Address) → IsKept kept t.known.part.known.cache turn.now.0 source home → Shows turn t
    → kept.holds ≡ holds_option t.known.part.known t.now source home
kept-holds turn t kept source home is s =
    is.bound ∙ sym (holds-same t.known.part.known turn.now.0 source home) ∙ ap (λ (n : ℕ). holds_option t.known.part.known n source home) (sym (shows-now turn t s))

-- a packet is checked as the code checks it
pub checked-here : (known here : AddressMatch) (place : ℕ) (bytes : List ℕ) (p : Packet) (r : Result (Option Said) Refusal) → here ≡ known → place ≡ place_in bytes p → checked here place p ≡ r
    → checked known (place_in bytes p) p ≡ r
checked-here known here place bytes p r is placed e =
    ap (λ (s : AddressMatch). checked s (place_in bytes p) p) (sym is) ∙ ap (λ (n : ℕ). checked here n p) (sym placed) ∙ e

abbrev pub inner_with : Bool → AddressMatch
inner_with holds = record { is_mine = true; takes_route = true; holds = holds }

pub inner-checked : (turn : Turn) (t : Transition) (kept : Kept) (place : ℕ) (bytes : List ℕ) (p : Packet) (r : Result (Option Said) Refusal)
    → IsKept kept t.known.part.known.cache turn.now.0 p.head.source p.head.home → Shows turn t → place ≡ place_in bytes p → checked (inner_with kept.holds) place p ≡ r
    → checked (inner_standing t.known t.now p.head) (place_in bytes p) p ≡ r
inner-checked turn t kept place bytes p r is s placed e =
    checked-here (inner_standing t.known t.now p.head) (inner_with kept.holds) place bytes p r (ap inner_with (kept-holds turn t kept p.head.source p.head.home is s)) placed e

-- a packet with a fault is dropped, whichever comes first
pub fault-first : (nested elsewhere routed unshielded : Bool) (number : ℕ) (rest t : Transition)
    → (if nested then noted (Drops number whys.Nested) t else if elsewhere then noted (Drops number whys.Address) t
    else if routed then noted (Drops number whys.Route) t else if unshielded then noted (Drops number whys.Unshielded) t else rest)
    ≡ unless_fault (first_fault nested elsewhere routed unshielded) number rest t
fault-first true b c d number rest t = refl
fault-first false true c d number rest t = refl
fault-first false false true d number rest t = refl
fault-first false false false true number rest t = refl
fault-first false false false false number rest t = refl

-- what a packet was handed with is what the part keeps
pub kept-here : (arrival : Arrival) (tunnelled : Bool) (now : ℕ) (head : Head) (handed : Handed) (cache : CacheSeen)
    → handed ≡ handed_as arrival tunnelled now head → AreAccepted arrival.numbers now arrival.accepted.now cache → IsKept handed.kept cache now head.source head.home
kept-here arrival tunnelled now head handed cache is are =
    subst (λ (k : Kept). IsKept k cache now head.source head.home) (sym (ap (λ (h : Handed). h.kept) is)) (are head.source head.home)
