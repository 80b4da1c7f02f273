-- Routers advertise themselves on a link: each agent there hears of each other one, and each mobile there of the prefix.
-- RFC 6275 sections 10.5.1 and 11.5.1
use Rattle.std.specs.Prelude.{ℕ, zero, suc, Bool, false, ◌==◌, if◌then◌else◌, length, Option, Some, None, slice_get, slice_index_or}
use Rattle.mip_words.specs.declared.address.Address.{Address}
use Rattle.mip_entries.specs.declared.entry.Entry.TheVariants.{Advertised}
use Rattle.mip_entries.specs.Completed.{node_id}
use Rattle.mip_links.specs.Table.{link_of}
use Rattle.mip_history.specs.Setup.{Setup, Host, Kind}
use Rattle.mip_history.specs.Setup.Kind.{Agent, Mobile}
use Rattle.mip_history.specs.Runs.{Run, note}
use Rattle.mip_history.specs.Calls.{Hear, Attach}
use Rattle.mip_history.specs.Knowing.{stands_on}
use Rattle.mip_history.specs.Claims.{link_id}
use Rattle.mip_history.specs.Nodes.{acts}

-- an agent as it advertises itself: its address, its preference, and for how many seconds
pub record Router : Type 0 where
  pub address : Address
  pub preference : ℕ
  pub life : ℕ

abbrev pub is_link : Option ℕ → ℕ → Bool
is_link None link = false
is_link (Some l) link = l == link

abbrev pub router_by_kind : Setup → (link : ℕ) → Address → Kind → Option Router
router_by_kind s link own (Agent preference life room serves) =
    if is_link (link_of s.links own.0) link then Some (record { address = own; preference = preference; life = life }) else None
router_by_kind s link own _ = None

abbrev pub router_by_host : Setup → (link : ℕ) → Option Host → Option Router
router_by_host s link None = None
router_by_host s link (Some host) = router_by_kind s link host.address host.kind

-- the agent that node n is on a link, if it is one there
abbrev pub router_at : Setup → (link n : ℕ) → Option Router
router_at s link n = router_by_host s link (slice_get s.hosts n)

-- agent g hears of another one
abbrev pub hears_of_router : Setup → (link g : ℕ) → Run → Option Router → Run
hears_of_router s link g run None = run
hears_of_router s link g run (Some r) = acts s g (Hear r.address r.preference r.life) (note (Advertised (node_id g) (link_id link) (Some r.address)) run)

abbrev pub hears_of_node : Setup → (link g other : ℕ) → Run → Run
hears_of_node s link g other run = if other == g then run else hears_of_router s link g run (router_at s link other)

-- of each of the first so many nodes that is one on its link
unfoldable pub hears_of_first : Setup → (link g : ℕ) → ℕ → Run → Run
hears_of_first s link g zero run = run
hears_of_first s link g (suc n) run = hears_of_node s link g n (hears_of_first s link g n run)

abbrev pub hears_of_all : Setup → (link g : ℕ) → Run → Option Router → Run
hears_of_all s link g run None = run
hears_of_all s link g run (Some r) = hears_of_first s link g (length s.hosts) run

-- each agent of the first so many nodes does so
unfoldable pub agents_hear : Setup → (link : ℕ) → ℕ → Run → Run
agents_hear s link zero run = run
agents_hear s link (suc n) run = let before = agents_hear s link n run in hears_of_all s link n before (router_at s link n)

-- a mobile stands on this link
abbrev pub roams_by_kind : Setup → Run → (link n : ℕ) → Address → Kind → Bool
roams_by_kind s run link n own (Mobile agent) = is_link (stands_on s run n own) link
roams_by_kind s run link n own _ = false

abbrev pub roams_by_host : Setup → Run → (link n : ℕ) → Option Host → Bool
roams_by_host s run link n None = false
roams_by_host s run link n (Some host) = roams_by_kind s run link n host.address host.kind

abbrev pub roams_on : Setup → Run → (link n : ℕ) → Bool
roams_on s run link n = roams_by_host s run link n (slice_get s.hosts n)

-- it is told of the prefix
abbrev pub mobile_told : Setup → (link n : ℕ) → Run → Run
mobile_told s link n run =
    if roams_on s run link n
    then acts s n (Attach (slice_index_or s.links link 0)) (note (Advertised (node_id n) (link_id link) None) run)
    else run

unfoldable pub mobiles_told : Setup → (link : ℕ) → ℕ → Run → Run
mobiles_told s link zero run = run
mobiles_told s link (suc n) run = mobile_told s link n (mobiles_told s link n run)

-- first the agents of the link, then the mobiles, in order of declaration
abbrev pub advertised : Setup → Run → (link : ℕ) → Run
advertised s run link = mobiles_told s link (length s.hosts) (agents_hear s link (length s.hosts) run)
