-- What an event owes to the declarations and to the events before it.
use Rattle.std.specs.Prelude.{ℕ, ◌+◌, ◌/◌, ◌==◌, nat_le, nat_lt, List, length, Bool, false, not, ◌||◌, if◌then◌else◌, Option, Some, None, Result, slice_index}
use Rattle.std.specs.List.{sum_by}
use Rattle.mip_words.specs.Addresses.{prefix_of}
use Rattle.mip_words.specs.Steps.{◌>>=◌}
use Rattle.mip_words.specs.declared.address.Address.{Address}
use Rattle.mip_words.specs.declared.prefix.Prefix.{Prefix}
use Rattle.mip_schedule.specs.DeclarationTimes.{is_prefix_taken, judged}
use Rattle.mip_schedule.specs.EventRows.{event_fields}
use Rattle.mip_symbols.specs.declared.declaration.Declaration.{Declaration}
use Rattle.mip_schedule.specs.declared.update_ends.UpdateEnds.{UpdateEnds}
use Rattle.mip_schedule.specs.declared.event.Event.{Event}
use Rattle.mip_schedule.specs.declared.event.Event.TheVariants as events
use Rattle.mip_symbols.specs.declared.reason.Reason.{Reason}
use Rattle.mip_symbols.specs.declared.reason.Reason.TheVariants as reasons

-- the waits of these events together, in milliseconds
abbrev pub wait_of : Event → ℕ
wait_of (events.Wait ms) = ms
wait_of _ = 0

unfoldable pub waited : List Event → ℕ
waited es = sum_by wait_of es

-- how many packets these events carry together
abbrev pub carry_of : Event → ℕ
carry_of (events.Carry count) = count
carry_of _ = 0

unfoldable pub carried : List Event → ℕ
carried es = sum_by carry_of es

-- headers and ICMPv6 and mobility messages: no payload's protocols
unfoldable pub is_reserved : ℕ → Bool
is_reserved proto =
    (proto == 0) || (proto == 41) || (proto == 43) || (proto == 44) || (proto == 50) || (proto == 51) || (proto == 58) || (proto == 59) || (proto == 60) || (proto == 135)

-- 40 bytes or more, of version 6
unfoldable pub is_packet : List ℕ → Bool
is_packet bytes = if nat_lt (length bytes) 40 then false else slice_index bytes 0 / 16 == 6

-- a care-of test is named exactly where a binding to another address than the home address is asked for
unfoldable pub is_wrong_test : ℕ → UpdateEnds → Option ℕ → Bool
is_wrong_test lifetime ends None = not ((lifetime == 0) || (ends.careof.0 == ends.home.0))
is_wrong_test lifetime ends (Some test) = (lifetime == 0) || (ends.careof.0 == ends.home.0)

-- the prefix of an address
abbrev pub prefix_at : Address → Prefix
prefix_at a = record { 0 = prefix_of a.0 }

-- what keeps an event from standing after these declarations and after events with these sums
unfoldable pub misfit : List Declaration → ℕ → ℕ → Event → Option Reason
misfit ds waits carries (events.Wait ms) = if nat_lt 36000000 (waits + ms) then Some reasons.Time else None
misfit ds waits carries (events.Payload node to proto payload) = if is_reserved proto then Some reasons.Number else None
misfit ds waits carries (events.Inject outsider link packet) = if is_packet packet then None else Some reasons.Packet
misfit ds waits carries (events.Bind outsider link ends sequence lifetime home_test careof_test number) =
    if is_wrong_test lifetime ends careof_test then Some reasons.Clash else None
misfit ds waits carries (events.Squat outsider address) = if is_prefix_taken ds (prefix_at address) then None else Some reasons.Address
misfit ds waits carries (events.Yield outsider address) = if is_prefix_taken ds (prefix_at address) then None else Some reasons.Address
misfit ds waits carries (events.Carry count) = if nat_lt 200000 (carries + count) then Some reasons.Carry else None
misfit ds waits carries _ = None

-- what keeps an event from standing after these declarations and so many events, with these sums
unfoldable pub untimely : List Declaration → ℕ → ℕ → ℕ → Event → Option Reason
untimely ds count waits carries e =
    if nat_le 20000 count then Some reasons.Limit else misfit ds waits carries e

-- a line of events after these declarations and so many events, with these sums
unfoldable pub timed_line : Bool → List Declaration → ℕ → ℕ → ℕ → List (List ℕ) → Result Event Reason
timed_line numbered ds count waits carries row = do
  e ← event_fields numbered ds row
  judged e (untimely ds count waits carries e)

-- a line of events after these declarations and events
abbrev pub event_line : Bool → List Declaration → List Event → List (List ℕ) → Result Event Reason
event_line numbered ds es row = timed_line numbered ds (length es) (waited es) (carried es) row
