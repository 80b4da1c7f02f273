-- Each event of a schedule may happen behind those before it.
use Rattle.std.proofs.Common.{◌≡◌, ℕ, zero, suc, ◌<◌, ◌≤◌, List, [], ◌∷◌, ◌++◌, length, Bool, true, false, refl, sym, ap, subst, arith, drop}
use Rattle.std.proofs.lemmas.Bool.{leb-false}
use Rattle.std.specs.Prelude.{Option, Some, None, ◌||◌, ◌==◌, nat_le, nat_lt, take, slice_get, if◌then◌else◌}
use Rattle.mip_ipv6.specs.Packet.{names_no_body}
use Rattle.mip_symbols.specs.Places.{AreFew}
use Rattle.mip_symbols.specs.declared.declaration.Declaration.{Declaration}
use Rattle.mip_symbols.specs.declared.reason.Reason.{Reason}
use Rattle.mip_symbols.specs.declared.reason.Reason.TheVariants as reasons
use Rattle.mip_schedule.specs.Contents.{Content}
use Rattle.mip_schedule.specs.EventTimes.{waited, carried, is_reserved, is_packet, misfit, untimely}
use Rattle.mip_schedule.specs.Lawful.{IsEvent, IsLawful, IsOutsider}
use Rattle.mip_schedule.specs.Versions.{is_numbered, numbers_in}
use Rattle.mip_schedule.specs.declared.event.Event.{Event}
use Rattle.mip_schedule.specs.declared.event.Event.TheVariants.{Payload, Inject, Bind, Squat, Yield, Refresh}
use Rattle.mip_history.specs.Setup.{Setup}
use Rattle.mip_history.specs.Runs.{Run}
use Rattle.mip_history.specs.RunsLaws.{IsRun}
use Rattle.mip_history.proofs.Events.{run_passes}
use Rattle.mip_afresh_nodes.specs.Reached.{IsReached}
use Rattle.mip_afresh_run.specs.Fitting.{IsWithin, IsFit}
use Rattle.mip_afresh_run.specs.Runs.{behind}

-- a run that events lead to
pub is_run : (s : Setup) (run : Run) → IsReached s run → IsRun s run
is_run s run r = subst (λ (x : Run). IsRun s x) (sym r.is) (run_passes s r.events).run

-- an event is not refused
passed : (b : Bool) (why : Reason) (o : Option Reason) → (if b then Some why else o) ≡ None → (b ≡ false) × (o ≡ None)
passed true why o e = absurd cc
passed false why o e = (refl, e)

timely : (ds : List Declaration) (count waits carries : ℕ) (event : Event) → untimely ds count waits carries event ≡ None → misfit ds waits carries event ≡ None
unfolding untimely
timely ds count waits carries event e = (passed (nat_le 20000 count) reasons.Limit (misfit ds waits carries event) e).1

-- what is not reserved names a body
clear : (b0 b41 b43 b44 b50 b51 b58 b59 b60 b135 : Bool) → (b0 || b41 || b43 || b44 || b50 || b51 || b58 || b59 || b60 || b135) ≡ false
    → (((((b0 || b43) || b44) || b50) || b51) || b60) ≡ false
clear true b41 b43 b44 b50 b51 b58 b59 b60 b135 e = absurd cc
clear false true b43 b44 b50 b51 b58 b59 b60 b135 e = absurd cc
clear false false true b44 b50 b51 b58 b59 b60 b135 e = absurd cc
clear false false false true b50 b51 b58 b59 b60 b135 e = absurd cc
clear false false false false true b51 b58 b59 b60 b135 e = absurd cc
clear false false false false false true b58 b59 b60 b135 e = absurd cc
clear false false false false false false true b59 b60 b135 e = absurd cc
clear false false false false false false false true b60 b135 e = absurd cc
clear false false false false false false false false true b135 e = absurd cc
clear false false false false false false false false false b135 e = refl

data_fits : (proto : ℕ) → is_reserved proto ≡ false → names_no_body proto ≡ false
unfolding is_reserved
data_fits p e = clear (p == 0) (p == 41) (p == 43) (p == 44) (p == 50) (p == 51) (p == 58) (p == 59) (p == 60) (p == 135) e

packet_fits : (packet : List ℕ) → (if is_packet packet then None else Some reasons.Packet) ≡ None → 40 ≤ length packet
unfolding is_packet
packet_fits packet e = by (nat_lt (length packet) 40) _ refl e
  where
    by : (short rest : Bool) → nat_lt (length packet) 40 ≡ short → (if (if short then false else rest) then None else Some reasons.Packet) ≡ None → 40 ≤ length packet
    by true rest is e = absurd cc
    by false rest is e = let long = leb-false (suc (length packet)) 40 is in omega arith

few_numbers : (numbered : Bool) → numbers_in numbered ≤ 8
few_numbers true = omega arith
few_numbers false = omega arith

-- the place of an event
parted : (events : List Event) (i : ℕ) (event : Event) → slice_get events i ≡ Some event → events ≡ take i events ++ event ∷ drop (suc i) events
parted [] i event there = absurd cc
parted (x ∷ xs) zero event there = let same : x ≡ event = cc in ap (λ (e : Event). e ∷ xs) same
parted (x ∷ xs) (suc i) event there = ap (λ (es : List Event). x ∷ es) (parted xs i event there)

module _ (c : Content) (lawful : IsLawful c) (few : AreFew c.declarations) where
  abbrev ds : List Declaration
  ds = c.declarations

  outsider_fits : (o : ℕ) → IsOutsider ds o → o < 8
  outsider_fits o declared = omega (arith, declared, few.outsiders)

  module _ (before : List Event) where
    fits : (event : Event) → IsEvent (is_numbered c.version) ds before event → misfit ds (waited before) (carried before) event ≡ None
    fits event is = timely ds (length before) (waited before) (carried before) event is.fits

    within : (event : Event) → IsEvent (is_numbered c.version) ds before event → IsWithin event
    unfolding misfit
    within (Payload node to proto payload) is = (is.within.1, data_fits proto (passed (is_reserved proto) reasons.Number None (fits _ is)).0, is.within.2)
    within (Inject o link packet) is = packet_fits packet (fits _ is)
    within (Bind o link ends sequence lifetime kh kc number) is = (is.within.4, omega (arith, is.within.6, few_numbers (is_numbered c.version)))
    within (Squat o address) is = outsider_fits o is.within.0
    within (Yield o address) is = outsider_fits o is.within.0
    within (Refresh node home) is = is.within.1
    within _ is = tt

  pub fit : (i : ℕ) (event : Event) → slice_get c.events i ≡ Some event → IsFit (behind c i) event
  fit i event there =
      let is = lawful.events (take i c.events) event (drop (suc i) c.events) (parted c.events i event there) in
      record {
        reached = record { events = take i c.events; is = refl };
        within = within (take i c.events) event is;
      }
