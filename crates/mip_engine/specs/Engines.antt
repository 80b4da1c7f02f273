-- What a contract sees of the engine of a run, and what its parts make of it.
use Rattle.std.specs.Prelude.{◌≡◌, ℕ, ◌<◌, ◌≤◌, ◌^◌, List, [], ◌∷◌, ◌++◌, length, Bool, true, false, ◌&&◌, if◌then◌else◌, Option, Some, None, is_some, unwrap_or, slice_get, slice_set}
use Rattle.std.specs.Option.{option_map_or}
use Rattle.mip_words.specs.declared.address.Address.{Address}
use Rattle.mip_words.specs.declared.shield.Shield.{Shield}
use Rattle.mip_entries.specs.declared.answer.Answer.{Answer}
use Rattle.mip_entries.specs.declared.entry.Entry.{Entry}
use Rattle.mip_entries.specs.declared.entry.Entry.TheVariants.{Claimed}
use Rattle.mip_links.specs.Nets.{NetSeen, new_net, hears_of, claimed, refusal, holder_of, is_held_by, with_rows, put}
use Rattle.mip_links.specs.Table.{link_of}
use Rattle.mip_links.specs.declared.claim_fault.ClaimFault.{ClaimFault}
use Rattle.mip_history.specs.Setup.{Host}
use Rattle.mip_history.specs.Calls.{Call}
use Rattle.mip_history.specs.Homes.{first_below}
use Rattle.mip_history.specs.Posting.{heards, is_other}
use Rattle.mip_roles.specs.Roles.{last_of, after_call, answers_to, lives_in, is_roaming}
use Rattle.mip_roles.specs.Nodes as nodes
use Rattle.mip_roles.specs.Nodes.{NodeSeen, new_node, with_role, with_spot, around_node}

pub record EngineSeen : Type 0 where
  pub seed : List ℕ
  pub net : NetSeen
  pub nodes : List NodeSeen
  pub outsiders : ℕ
  -- how many numbers the bindings of a home may have
  pub numbers : ℕ
  pub moment : ℕ
  -- the history so far, and what was given away of it
  pub past : List Entry
  pub told : List Entry

-- there are few nodes, none was called at a later moment, and moments stay far from the last one
pub record IsCalm (nodes : List NodeSeen) (now : ℕ) : Type 0 where
  pub early : now < 2 ^ 62
  pub few : length nodes ≤ 32
  pub later : (n : ℕ) (c : NodeSeen) → slice_get nodes n ≡ Some c → last_of c.role ≤ now

abbrev pub with_entries : List Entry → EngineSeen → EngineSeen
with_entries entries e =
    record e { past = e.past ++ entries }

abbrev pub with_entry : Entry → EngineSeen → EngineSeen
with_entry entry e = with_entries (entry ∷ []) e

-- all that was not given away is
abbrev pub all_told : EngineSeen → EngineSeen
all_told e = record e { told = e.past }

abbrev pub with_net : NetSeen → EngineSeen → EngineSeen
with_net net e = record e { net = net }

abbrev pub with_node : ℕ → NodeSeen → EngineSeen → EngineSeen
with_node n c e =
    record e { nodes = slice_set e.nodes n c }

abbrev pub at_moment : ℕ → EngineSeen → EngineSeen
at_moment now e = record e { moment = now }

-- node n in its next life
abbrev pub reborn : ℕ → NodeSeen → EngineSeen → EngineSeen
reborn n c e = with_node n (nodes.reborn e.seed e.numbers n c) e

-- node n stands on a link, or on none, where there is such a node
abbrev pub stood_by : ℕ → Option ℕ → EngineSeen → Option NodeSeen → EngineSeen
stood_by n spot e None = e
stood_by n spot e (Some c) = with_node n (with_spot spot c) e

abbrev pub stood : ℕ → Option ℕ → EngineSeen → EngineSeen
stood n spot e = stood_by n spot e (slice_get e.nodes n)

-- a node more, which holds its address
abbrev pub joined : Host → EngineSeen → EngineSeen
joined host e = record {
  seed = e.seed;
  net = claimed e.net (length e.nodes) host.address;
  nodes = e.nodes ++ new_node e.seed e.numbers (length e.nodes) (link_of e.net.links host.address.0) host ∷ [];
  outsiders = e.outsiders;
  numbers = e.numbers;
  moment = e.moment;
  past = e.past ++ Claimed (length e.nodes) (record { 0 = unwrap_or (link_of e.net.links host.address.0) 0 }) host.address ∷ [];
  told = e.told;
}

-- what node n answers to what it is asked
abbrev pub answers_of : Call → ℕ → NodeSeen → EngineSeen → List Answer
answers_of call n c e = answers_to (around_node e.net n c) c.role e.moment call

-- and it has done that
abbrev pub acted : Call → ℕ → NodeSeen → EngineSeen → EngineSeen
acted call n c e = with_node n (with_role (after_call (around_node e.net n c) c.role e.moment call) c) e

-- the link that a node sends from: a mobile the one on which it stands
abbrev pub station_of : List ℕ → NodeSeen → ℕ
station_of links c = if is_roaming c.role then unwrap_or c.spot 0 else unwrap_or (link_of links c.host.address.0) 0

-- an outsider hears a link, and is not the one that is left out
abbrev pub ears_of : EngineSeen → Option ℕ → ℕ → ℕ → Bool
ears_of e by link o = is_other by o && hears_of e.net.hearing o link

-- outsiders have heard packet k on a link, unless it is shielded
abbrev pub heard_by : Option Shield → Option ℕ → ℕ → ℕ → EngineSeen → EngineSeen
heard_by shield by link k e =
    if is_some shield then e else with_entries (heards (λ o. ears_of e by link o) k e.outsiders) e

-- before the first node: nothing has happened
abbrev pub new_engine : List ℕ → ℕ → List ℕ → (outsiders numbers : ℕ) → EngineSeen
new_engine seed start links outsiders numbers =
    record { seed = seed; net = new_net links; nodes = []; outsiders = outsiders; numbers = numbers; moment = start; past = []; told = [] }

-- a claim is tried
abbrev pub tried : NetSeen → ℕ → Address → Option ClaimFault → NetSeen
tried net who address None = claimed net who address
tried net who address (Some fault) = net

abbrev pub claim_tried : NetSeen → ℕ → Address → NetSeen
claim_tried net who address = tried net who address (refusal net who address.0)

-- an address is given up
abbrev pub released : NetSeen → ℕ → Address → NetSeen
released net who address =
    if is_held_by (holder_of net.rows address.0) who then with_rows net (put net.rows address.0 None) else net

-- a node is a mobile at home, and this is its home address
abbrev pub lives_at : List NodeSeen → ℕ → ℕ → Bool
lives_at nodes address n = option_map_or (λ (c : NodeSeen). lives_in c.role address) (slice_get nodes n) false

-- the mobile at home whose home address this is
abbrev pub resident_of : List NodeSeen → ℕ → Option ℕ
resident_of nodes address = first_below (lives_at nodes address) (length nodes)

-- an address on a link that nobody has
abbrev pub IsFree : NetSeen → ℕ → Type 0
IsFree net address = (is_some (link_of net.links address) ≡ true) × (holder_of net.rows address ≡ None)
