-- A fact of a run that is kept by each thing which can happen to claims and to the past of a node, and every run that has it.
use Rattle.std.proofs.Common.{◌≡◌, ℕ, List, [], false, length, refl}
use Rattle.std.specs.Prelude.{None}
use Rattle.mip_words.specs.declared.address.Address.{Address}
use Rattle.mip_entries.specs.declared.entry.Entry.{Entry}
use Rattle.mip_entries.specs.declared.entry.Entry.TheVariants as entries
use Rattle.mip_schedule.specs.declared.event.Event.{Event}
use Rattle.mip_links.specs.Table.{Post, holder_outside}
use Rattle.mip_history.specs.Setup.{Setup}
use Rattle.mip_history.specs.Runs.{Run, note, entered, without, with_past, with_agent_past}
use Rattle.mip_history.specs.Calls.{Call, Leave, Restart}
use Rattle.mip_history.specs.Claims.{claims}
use Rattle.mip_history.specs.Homes.{gives_up}
use Rattle.mip_history.specs.Nodes.{acts}
use Rattle.mip_history.specs.Permitted.{opened, run_of}
use Rattle.mip_history.proofs.Keeping.{emptied}
use Rattle.mip_history.proofs.Changes.{IsBornAgent, IsLeft, Change, left, comes, injects, drops, squats, yields, acted, moved, reborn, gives, renewed, all_keep}
use Rattle.mip_history.proofs.Folds.{emptied_keeps}
use Rattle.mip_law_claims.proofs.Noting.{is_claiming}

left_other : (s : Setup) (event : Event) (run : Run) (e : Entry) → IsLeft s event run e → is_claiming e ≡ false
left_other s event run entries.Idle is = refl
left_other s event run (entries.Heard k o) is = refl
left_other s event run (entries.Handed k node) is = refl
left_other s event run (entries.Gone k why) is = refl
left_other s event run (entries.Lost k) is = refl
left_other s event run (entries.Listening o link) is = refl
left_other s event run (entries.Deafened o link) is = refl
left_other s event run (entries.Settled a b value) is = refl
left_other s event run (entries.Advertised node link router) is = refl
left_other s event run (entries.Row node home number careof sequence end kept) is = refl
left_other s event run _ is = absurd is

-- a fact that each thing keeps which can happen to claims, and to the pasts of nodes
pub record KeepsClaims (s : Setup) (P : Run → Type 0) : Type 0 where
  -- an entry is left that tells of no claim
  pub other : (run : Run) (e : Entry) → is_claiming e ≡ false → P run → P (note e run)
  -- a packet enters the pool, and leaves it
  pub enters : (run : Run) (post : Post) → P run → P (entered post run)
  pub leaves : (run : Run) (k : ℕ) → P run → P (without k run)
  -- an outsider claims an address, and gives one up
  pub squats : (run : Run) (o : ℕ) (address : Address) → P run → P (claims s (holder_outside o) address run)
  pub yields : (run : Run) (o : ℕ) (address : Address) → P run → P (gives_up s (holder_outside o) address run)
  -- a node is called
  pub acted : (run : Run) (n : ℕ) (call : Call) → P run → P (acts s n call run)
  -- a correspondent and an agent lose their pasts, and an agent gives up the homes of the life before
  pub emptied : (run : Run) (n : ℕ) → P run → P (with_past n [] run)
  pub reborn : (run : Run) (n : ℕ) → P run → P (with_agent_past n [] run)
  pub gives : (run : Run) (n : ℕ) (address : Address) → IsBornAgent s run n → P run → P (gives_up s n address run)

-- over a whole schedule
module _ (s : Setup) (P : Run → Type 0) (keeps : KeepsClaims s P) where
  change : (event : Event) (a b : Run) → Change s event a b → P a → P b
  change event _ _ (left run e is) p = keeps.other run e (left_other s event run e is) p
  change event _ _ (comes run m wait early) p = keeps.other run (entries.At (record { 0 = m })) refl p
  change event _ _ (injects run o link packet is) p =
      let e : Entry = entries.Injected (length run.posts) o link packet in
      keeps.enters (note e run) (record { from = link.0; shield = None; packet = packet }) (keeps.other run e refl p)
  change event _ _ (drops run k) p = keeps.leaves run k p
  change event _ _ (squats run o address so) p = keeps.squats run o address p
  change event _ _ (yields run o address so) p = keeps.yields run o address p
  change event _ _ (acted run n call is) p = keeps.acted run n call p
  change event _ _ (moved run node link so is) p = keeps.other (acts s node.0 Leave run) (entries.Moved node link) refl (keeps.acted run node.0 Leave p)
  change event _ _ (reborn run node so is) p =
      keeps.other (emptied s node.0 run) (entries.Restarted node) refl (emptied_keeps s node.0 run P p (keeps.emptied run node.0 p) (keeps.reborn run node.0 p))
  change event _ _ (gives run node address so is) p = keeps.gives run node.0 address is p
  change event _ _ (renewed run node secrets so is life) p = keeps.acted (note (entries.Restarted node) run) node.0 (Restart secrets) (keeps.other run (entries.Restarted node) refl p)

  -- from the opening claims on
  pub walk_run : (events : List Event) → P (opened s) → P (run_of s events)
  walk_run events p = all_keep s P change (opened s) events p
