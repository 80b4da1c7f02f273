-- What is kept by each thing that can happen is kept by every event, and by a whole schedule.
use Rattle.std.proofs.Common.{◌≡◌, ℕ, List, [], false, refl}
use Rattle.std.specs.Prelude.{fold}
use Rattle.mip_entries.specs.declared.entry.Entry.{Entry}
use Rattle.mip_entries.specs.declared.entry.Entry.TheVariants as entries
use Rattle.mip_schedule.specs.declared.event.Event.{Event}
use Rattle.mip_links.specs.Table.{holder_outside}
use Rattle.mip_history.specs.Setup.{Setup}
use Rattle.mip_history.specs.Runs.{Run, note}
use Rattle.mip_history.specs.Calls as calls
use Rattle.mip_history.specs.Calls.{Call, Take}
use Rattle.mip_history.specs.Nodes.{acts}
use Rattle.mip_history.specs.Permitted.{opening_claims, opened, happens, run_of}
use Rattle.mip_history.proofs.Opening.{claims_none, nothing}
use Rattle.mip_history.proofs.Keeping.{is_busy, Keeps, keeps_notes, keeps_claims, keeps_gives_up}
use Rattle.mip_history.proofs.Changes.{IsLeft, IsBy, Change, left, comes, injects, drops, squats, yields, acted, moved, reborn, gives, renewed, all_keep}

-- an entry that no node leaves
pub left_idle : (s : Setup) (event : Event) (run : Run) (e : Entry) → IsLeft s event run e → is_busy e ≡ false
left_idle s event run entries.Idle is = refl
left_idle s event run (entries.Heard k o) is = refl
left_idle s event run (entries.Handed k node) is = refl
left_idle s event run (entries.Gone k why) is = refl
left_idle s event run (entries.Lost k) is = refl
left_idle s event run (entries.Listening o link) is = refl
left_idle s event run (entries.Deafened o link) is = refl
left_idle s event run (entries.Settled a b value) is = refl
left_idle s event run (entries.Advertised node link router) is = refl
left_idle s event run (entries.Row node home number careof sequence end kept) is = refl
left_idle s event run _ is = absurd is

module _ (s : Setup) (P : Run → Type 0) (keeps : Keeps s P) where
  one : (run : Run) (e : Entry) → is_busy e ≡ false → P run → P (note e run)
  one run e quiet p = keeps.idle run e quiet p

  called : (event : Event) (run : Run) (n : ℕ) (call : Call) → IsBy s event run n call → P run → P (acts s n call run)
  called event run n (Take k shield packet) is p = keeps.acted run n (Take k shield packet) is.1 refl refl p
  called event run n (calls.Attach prefix) is p = keeps.acted run n (calls.Attach prefix) is.2 refl refl p
  called event run n calls.Leave is p = absurd is
  called event run n (calls.Restart secrets) is p = absurd is
  called event run n call is p = keeps.acted run n call tt refl refl p

  change : (event : Event) (a b : Run) → Change s event a b → P a → P b
  change event _ _ (left run e is) p = one run e (left_idle s event run e is) p
  change event _ _ (comes run m wait early) p = keeps.timed run m p
  change event _ _ (injects run o link packet is) p = keeps.injects run o link.0 packet p
  change event _ _ (drops run k) p = keeps.leaves run k p
  change event _ _ (squats run o address so) p = keeps_claims s P one (holder_outside o) address run (λ link holder. keeps.taken run o link address holder p) p
  change event _ _ (yields run o address so) p = keeps_gives_up s P one (holder_outside o) address run p
  change event _ _ (acted run n call is) p = called event run n call is p
  change event _ _ (moved run node link so is) p = keeps.moved run node.0 link is p
  change event _ _ (reborn run node so is) p = keeps.reborn run node.0 is p
  change event _ _ (gives run node address so within) p = keeps_gives_up s P one node.0 address run p
  change event _ _ (renewed run node secrets so is life) p = keeps.renewed run node.0 secrets is p

  pub walk_all : (run : Run) (events : List Event) → P run → P (fold (λ run event. happens s run event) run events)
  walk_all run events p = all_keep s P change run events p

  -- from before the opening claims
  pub walk_run : (events : List Event) → P (nothing s) → P (run_of s events)
  walk_run events p =
      walk_all (opened s) events (keeps_notes s P one (opening_claims s) (nothing s) (claims_none is_busy (λ who link address. refl) s.links [] s.hosts) p)
