-- What each effect keeps, and a moment and a life that begins, every schedule keeps.
use Rattle.std.proofs.Common.{◌≡◌, ℕ, ◌≤◌, List, [], length, refl}
use Rattle.std.specs.Prelude.{fold, Option, Some, None, slice_get}
use Rattle.mip_words.specs.declared.ids.NodeId.{NodeId}
use Rattle.mip_entries.specs.declared.entry.Entry.{Entry}
use Rattle.mip_entries.specs.declared.entry.Entry.TheVariants as entries
use Rattle.mip_schedule.specs.declared.event.Event.{Event}
use Rattle.mip_schedule.specs.declared.event.Event.TheVariants.{Restart as Restarts}
use Rattle.mip_links.specs.Table.{holder_outside}
use Rattle.mip_history.specs.Setup.{Setup, Host, Kind}
use Rattle.mip_history.specs.Setup.Kind.{Correspondent, Agent, Mobile}
use Rattle.mip_history.specs.Runs.{Run, note, with_past, with_agent_past}
use Rattle.mip_history.specs.Calls.{Leave, Restart}
use Rattle.mip_history.specs.Knowing.{now_in}
use Rattle.mip_history.specs.Nodes.{acts}
use Rattle.mip_history.specs.Permitted.{happens}
use Rattle.mip_history.proofs.Keeping.{emptied_by_kind, emptied_by_host, emptied}
use Rattle.mip_history.proofs.Effects.{IsSeen, Effect, notes-it, enters, goes, learns, h-claims, h-gives_up, h-acts}
use Rattle.mip_history.proofs.Fates.{fate_named}
use Rattle.mip_history.proofs.Changes.{IsWait, IsLeft, Change, left, comes, injects, drops, squats, yields, acted, moved, reborn, gives, renewed, all_keep}

-- an entry that no node leaves posts nothing
pub left_seen : (s : Setup) (event : Event) (run : Run) (e : Entry) → IsLeft s event run e → IsSeen run e
left_seen s event run entries.Idle is = tt
left_seen s event run (entries.Heard k o) is = is.bare
left_seen s event run (entries.Handed k node) is = record { post = is.post; posted = is.posted; named = fate_named s event run k node is }
left_seen s event run (entries.Gone k why) is = tt
left_seen s event run (entries.Lost k) is = tt
left_seen s event run (entries.Listening o link) is = tt
left_seen s event run (entries.Deafened o link) is = tt
left_seen s event run (entries.Settled a b value) is = tt
left_seen s event run (entries.Advertised node link router) is = tt
left_seen s event run (entries.Row node home number careof sequence end kept) is = tt
left_seen s event run _ is = absurd is

-- a node that loses its past
pub emptied_keeps : (s : Setup) (n : ℕ) (run : Run) (P : Run → Type 0) → P run → P (with_past n [] run) → P (with_agent_past n [] run) → P (emptied s n run)
emptied_keeps s n run P same part agent = by_node (slice_get s.hosts n)
  where
    kinds : (kind : Kind) → P (emptied_by_kind n run kind)
    kinds (Correspondent room) = part
    kinds (Agent preference life room serves) = agent
    kinds (Mobile home) = same

    by_node : (o : Option Host) → P (emptied_by_host n run o)
    by_node None = same
    by_node (Some host) = kinds host.kind

pub emptied_learns : (s : Setup) (n : ℕ) (run : Run) → Effect s run (emptied s n run)
emptied_learns s n run = emptied_keeps s n run (Effect s run) (learns run run refl refl refl) (learns run _ refl refl refl) (learns run _ refl refl refl)

pub emptied_past : (s : Setup) (n : ℕ) (run : Run) → (emptied s n run).past ≡ run.past
emptied_past s n run = emptied_keeps s n run (λ (next : Run). next.past ≡ run.past) refl refl refl

-- a change is many effects, but for a moment that comes and a life that begins
module _ (s : Setup) (P : Run → Type 0) (step : (a b : Run) → Effect s a b → P a → P b) (event : Event)
    (timed : (run : Run) (m : ℕ) → IsWait event → now_in s run ≤ m → P run → P (note (entries.At (record { 0 = m })) run))
    (born : (run : Run) (node : NodeId) → event ≡ Restarts node → P run → P (note (entries.Restarted node) run)) where
  pub change_effects : (a b : Run) → Change s event a b → P a → P b
  change_effects _ _ (left run e is) p = step run (note e run) (notes-it run e (left_seen s event run e is)) p
  change_effects _ _ (comes run m wait early) p = timed run m wait early p
  change_effects _ _ (injects run o link packet is) p =
      step run _ (enters run (record { from = link.0; shield = None; packet = packet }) (entries.Injected (length run.posts) o link packet) (refl, refl, refl)) p
  change_effects _ _ (drops run k) p = step run _ (goes run k) p
  change_effects _ _ (squats run o address so) p = h-claims s P step (holder_outside o) address run p
  change_effects _ _ (yields run o address so) p = h-gives_up s P step (holder_outside o) address run p
  change_effects _ _ (acted run n call is) p = h-acts s P step n call run p
  change_effects _ _ (moved run node link so is) p =
      let gone : Run = acts s node.0 Leave run in
      step gone (note (entries.Moved node link) gone) (notes-it gone (entries.Moved node link) tt) (h-acts s P step node.0 Leave run p)
  change_effects _ _ (reborn run node so is) p = born (emptied s node.0 run) node so (step run (emptied s node.0 run) (emptied_learns s node.0 run) p)
  change_effects _ _ (gives run node address so within) p = h-gives_up s P step node.0 address run p
  change_effects _ _ (renewed run node secrets so is life) p = h-acts s P step node.0 (Restart secrets) (note (entries.Restarted node) run) (born run node so p)

module _ (s : Setup) (P : Run → Type 0) (step : (a b : Run) → Effect s a b → P a → P b)
    (timed : (run : Run) (m : ℕ) → now_in s run ≤ m → P run → P (note (entries.At (record { 0 = m })) run))
    (born : (run : Run) (node : NodeId) → P run → P (note (entries.Restarted node) run)) where
  pub schedule_effects : (run : Run) (events : List Event) → P run → P (fold (λ run event. happens s run event) run events)
  schedule_effects run events p = all_keep s P (λ event a b change p. change_effects s P step event (λ run m wait early p. timed run m early p) (λ run node so p. born run node p) a b change p) run events p
