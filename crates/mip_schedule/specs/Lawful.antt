-- What every schedule keeps to: each declaration stands after those before it, and each event after the declarations
-- and the events before it.
use Rattle.std.specs.Prelude.{◌≡◌, ℕ, ◌+◌, ◌<◌, ◌≤◌, ◌^◌, List, ◌∷◌, ◌++◌, length, Bool, true, Option, Some, None, Ok, ⊤}
use Rattle.mip_words.specs.Addresses.{is_routable}
use Rattle.mip_words.specs.declared.address.Address.{Address}
use Rattle.mip_words.specs.declared.ids.LinkId.{LinkId}
use Rattle.mip_words.specs.declared.ids.NodeId.{NodeId}
use Rattle.mip_schedule.specs.Contents.{Content}
use Rattle.mip_schedule.specs.DeclarationTimes.{undeclared, declaration_line}
use Rattle.mip_schedule.specs.EventTimes.{waited, carried, untimely, event_line}
use Rattle.mip_symbols.specs.Places.{members}
use Rattle.mip_schedule.specs.Spelling.{declaration_text, event_text}
use Rattle.mip_schedule.specs.Versions.{is_numbered, numbers_in}
use Rattle.mip_symbols.specs.declared.declaration.Declaration.{Declaration}
use Rattle.mip_schedule.specs.declared.event.Event.{Event}
use Rattle.mip_schedule.specs.declared.event.Event.TheVariants as events
use Rattle.mip_symbols.specs.declared.places.Sort.TheVariants as sorts

-- the link, the node, the outsider is declared
abbrev pub IsLink : List Declaration → LinkId → Type 0
IsLink ds link = link.0 < length (members sorts.Link ds)

abbrev pub IsNode : List Declaration → NodeId → Type 0
IsNode ds node = node.0 < length (members sorts.Node ds)

abbrev pub IsOutsider : List Declaration → ℕ → Type 0
IsOutsider ds outsider = outsider < length (members sorts.Outsider ds)

abbrev pub IsLinkIfAny : List Declaration → Option LinkId → Type 0
IsLinkIfAny ds (Some link) = IsLink ds link
IsLinkIfAny ds None = ⊤

abbrev pub IsHost : Address → Type 0
IsHost a = is_routable a.0 ≡ true

-- an event names what is declared and routable addresses, and its numbers and bytes stay within their bounds. Where updates
-- do not name their binding numbers, these are 0
abbrev pub IsWithin : Bool → List Declaration → Event → Type 0
IsWithin numbered ds (events.Wait ms) = ms ≤ 600000
IsWithin numbered ds (events.Move node link) = IsNode ds node × IsLinkIfAny ds link
IsWithin numbered ds (events.Advertise link) = IsLink ds link
IsWithin numbered ds (events.Payload node to proto payload) = IsNode ds node × IsHost to × (length payload ≤ 512)
IsWithin numbered ds (events.Inject outsider link packet) = IsOutsider ds outsider × IsLink ds link × (length packet ≤ 2048)
IsWithin numbered ds (events.Probe outsider link careof source peer cookie) = IsOutsider ds outsider × IsLink ds link × IsHost source × IsHost peer
IsWithin numbered ds (events.Bind outsider link ends sequence lifetime home_test careof_test number) =
    IsOutsider ds outsider × IsLink ds link × IsHost ends.source × IsHost ends.peer × IsHost ends.home × IsHost ends.careof × (number < numbers_in numbered)
IsWithin numbered ds (events.Tell outsider link test probe) = IsOutsider ds outsider × IsLink ds link
IsWithin numbered ds (events.Listen outsider link) = IsOutsider ds outsider × IsLink ds link
IsWithin numbered ds (events.Deaf outsider link) = IsOutsider ds outsider × IsLink ds link
IsWithin numbered ds (events.Squat outsider address) = IsOutsider ds outsider × IsHost address
IsWithin numbered ds (events.Yield outsider address) = IsOutsider ds outsider × IsHost address
IsWithin numbered ds (events.Deliver number) = ⊤
IsWithin numbered ds (events.Repeat number) = ⊤
IsWithin numbered ds (events.Lose number) = ⊤
IsWithin numbered ds (events.Carry count) = count ≤ 1000
IsWithin numbered ds (events.Restart node) = IsNode ds node
IsWithin numbered ds (events.Refresh node home) = IsNode ds node × IsHost home
IsWithin numbered ds (events.Plan node valid preferred) = IsNode ds node
IsWithin numbered ds (events.Ask node) = IsNode ds node
IsWithin numbered ds (events.Show node) = IsNode ds node
IsWithin numbered ds (events.Settle a b) = IsNode ds a × IsNode ds b

-- a declaration is read from its own line, and nothing before it keeps it from standing
pub record IsDeclaration (before : List Declaration) (d : Declaration) : Type 0 where
  pub line : declaration_line before (declaration_text before d) ≡ Ok d
  pub free : undeclared before d ≡ None

-- an event is read from its own line, nothing before it keeps it from standing, and it stays within its bounds
pub record IsEvent (numbered : Bool) (ds : List Declaration) (before : List Event) (e : Event) : Type 0 where
  pub line : event_line numbered ds before (event_text numbered ds e) ≡ Ok e
  pub fits : untimely ds (length before) (waited before) (carried before) e ≡ None
  pub within : IsWithin numbered ds e

pub record IsLawful (c : Content) : Type 0 where
  pub version : (1 ≤ c.version) × (c.version ≤ 2)
  -- the start is at most 2 ^ 40 ms
  pub start : c.start.0 ≤ 2 ^ 40
  pub declarations : (before : List Declaration) (d : Declaration) (after : List Declaration) → c.declarations ≡ before ++ d ∷ after → IsDeclaration before d
  pub events : (before : List Event) (e : Event) (after : List Event) → c.events ≡ before ++ e ∷ after → IsEvent (is_numbered c.version) c.declarations before e
  -- three lines of head, one a declaration, `run`, and one an event: line numbers are of 32 bits
  pub lines : length c.declarations + length c.events + 5 < 2 ^ 32
