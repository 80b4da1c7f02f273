-- Routers advertise themselves on a link.
use Rattle.std.proofs.Common.{◌≡◌, ℕ, suc, ◌+◌, List, Bool, false, refl, ap, ◌∙◌, arith}
use Rattle.std.specs.Prelude.{Option, Some, None, option_map, slice_get, slice_index_or, if◌then◌else◌, ◌&&◌}
use Rattle.std.specs.Option.{option_map_or}
use Rattle.mip_words.specs.declared.address.Address.{Address}
use Rattle.mip_entries.specs.Completed.{node_id}
use Rattle.mip_entries.specs.declared.entry.Entry.TheVariants.{Advertised}
use Rattle.mip_links.specs.Table.{Asked, link_of}
use Rattle.mip_history.specs.Setup.{Setup, Host, Kind}
use Rattle.mip_history.specs.Setup.Kind.{Correspondent as OfCorrespondent, Agent as OfAgent, Mobile as OfMobile}
use Rattle.mip_history.specs.Runs.{Run, note}
use Rattle.mip_history.specs.Calls.{Attach}
use Rattle.mip_history.specs.Claims.{link_id}
use Rattle.mip_history.specs.Nodes.{acts}
use Rattle.mip_history.specs.Advertising.{Router, is_link, router_by_host, router_at, roams_by_host, roams_on, hears_of_node, hears_of_first, mobile_told, mobiles_told}
use Rattle.mip_engine.specs.Nodes.{NodeSeen, router_of}
use Rattle.mip_engine.specs.Roles.{is_roaming}
use Rattle.mip_engine.specs.Engines.{EngineSeen, with_entry}
use Rattle.mip_engine.specs.Quiet.{IsQuiet}
use Rattle.mip_engine.specs.Standing.{IsAt, node_in}
use Rattle.mip_engine.proofs.QuietLaws.{at_note, quiet_by}

-- an agent, if it is one of this link
abbrev pub on_link : List ℕ → ℕ → Option Router → Option Router
on_link links link None = None
on_link links link (Some r) = if is_link (link_of links r.address.0) link then Some r else None

abbrev pub router_of_node : EngineSeen → ℕ → Option Router
router_of_node e n = option_map_or (λ (c : NodeSeen). router_of c.host) (slice_get e.nodes n) None

pub router_on_is : (e : EngineSeen) (s : Setup) (run : Run) → IsAt e s run → (link n : ℕ) → on_link e.net.links link (router_of_node e n) ≡ router_at s link n
router_on_is e s run at link n =
    ap (λ (q : Asked). on_link q.links link (router_of_node e n)) at.asked
    ∙ ap (λ (o : Option NodeSeen). on_link s.links link (option_map_or (λ (c : NodeSeen). router_of c.host) o None)) (at.nodes n)
    ∙ by (slice_get s.hosts n)
  where
    kind_is : (own : Address) (kind : Kind) → on_link s.links link (router_of (record { address = own; kind = kind })) ≡ router_by_host s link (Some (record { address = own; kind = kind }))
    kind_is own (OfCorrespondent room) = refl
    kind_is own (OfAgent preference life room serves) = refl
    kind_is own (OfMobile agent) = refl

    by : (o : Option Host) → on_link s.links link (option_map_or (λ (c : NodeSeen). router_of c.host) (option_map (node_in s run n) o) None) ≡ router_by_host s link o
    by None = refl
    by (Some host) = kind_is host.address host.kind

-- whether a node is a mobile that stands on a link
abbrev pub roams_at : EngineSeen → ℕ → ℕ → Bool
roams_at e link n =
    option_map_or (λ (c : NodeSeen). is_roaming c.role) (slice_get e.nodes n) false && is_link (option_map_or (λ (c : NodeSeen). c.spot) (slice_get e.nodes n) None) link

pub roams_is : (e : EngineSeen) (s : Setup) (run : Run) → IsAt e s run → (link n : ℕ) → roams_at e link n ≡ roams_on s run link n
roams_is e s run at link n =
    ap (λ (o : Option NodeSeen). option_map_or (λ (c : NodeSeen). is_roaming c.role) o false && is_link (option_map_or (λ (c : NodeSeen). c.spot) o None) link) (at.nodes n)
    ∙ by (slice_get s.hosts n)
  where
    kind_is : (own : Address) (kind : Kind) → (let c = node_in s run n (record { address = own; kind = kind }) in is_roaming c.role && is_link c.spot link) ≡ roams_by_host s run link n (Some (record { address = own; kind = kind }))
    kind_is own (OfCorrespondent room) = refl
    kind_is own (OfAgent preference life room serves) = refl
    kind_is own (OfMobile agent) = refl

    by : (o : Option Host) → (option_map_or (λ (c : NodeSeen). is_roaming c.role) (option_map (node_in s run n) o) false && is_link (option_map_or (λ (c : NodeSeen). c.spot) (option_map (node_in s run n) o) None) link) ≡ roams_by_host s run link n o
    by None = refl
    by (Some host) = kind_is host.address host.kind

-- the prefix of a link
pub prefix_is : (e : EngineSeen) (s : Setup) (run : Run) → IsAt e s run → (link : ℕ) → slice_index_or e.net.links link 0 ≡ slice_index_or s.links link 0
prefix_is e s run at link = ap (λ (q : Asked). slice_index_or q.links link 0) at.asked

-- what is advertised is noted
pub quiet_advertised : (n link : ℕ) (agent : Option Address) → IsQuiet (Advertised (node_id n) (link_id link) agent)
quiet_advertised n link agent = quiet_by (Advertised (node_id n) (link_id link) agent) refl refl

pub at_advertised : (e : EngineSeen) (s : Setup) (run : Run) (n link : ℕ) (agent : Option Address) → IsAt e s run
    → IsAt (with_entry (Advertised (node_id n) (link_id link) agent) e) s (note (Advertised (node_id n) (link_id link) agent) run)
at_advertised e s run n link agent at = at_note e s run (Advertised (node_id n) (link_id link) agent) (quiet_advertised n link agent) at

-- a mobile of the link is told of the prefix
abbrev pub told_if : Setup → (link n : ℕ) → Run → Bool → Run
told_if s link n run roams =
    if roams then acts s n (Attach (slice_index_or s.links link 0)) (note (Advertised (node_id n) (link_id link) None) run) else run

-- one node more
pub heard_more : (s : Setup) (link g n : ℕ) (run : Run) → hears_of_first s link g (n + 1) run ≡ hears_of_node s link g n (hears_of_first s link g n run)
unfolding hears_of_first
heard_more s link g n run = ap (λ (m : ℕ). hears_of_first s link g m run) (let same : n + 1 ≡ suc n = omega arith in same)

pub told_more : (s : Setup) (link n : ℕ) (run : Run) → mobiles_told s link (n + 1) run ≡ mobile_told s link n (mobiles_told s link n run)
unfolding mobiles_told
told_more s link n run = ap (λ (m : ℕ). mobiles_told s link m run) (let same : n + 1 ≡ suc n = omega arith in same)
