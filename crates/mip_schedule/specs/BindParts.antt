-- The line of an update that is posted, behind who posts it where, in two parts: its ends and its numbers.
use Rattle.std.specs.Prelude.{ℕ, List, Option, Some, None, Result, Ok}
use Rattle.mip_words.specs.Steps.{◌>>=◌}
use Rattle.mip_words.specs.declared.ids.LinkId.{LinkId}
use Rattle.mip_schedule.specs.DeclarationRows.{u16}
use Rattle.mip_schedule.specs.EventRows.{u32, binding_number, update_ends}
use Rattle.mip_symbols.specs.Kinds as kinds
use Rattle.mip_schedule.specs.declared.event.Event.{Event}
use Rattle.mip_schedule.specs.declared.event.Event.TheVariants as events
use Rattle.mip_schedule.specs.declared.update_ends.UpdateEnds.{UpdateEnds}
use Rattle.mip_symbols.specs.declared.reason.Reason.{Reason}

unfoldable pub bind_ends : (source peer home careof : List ℕ) → Result UpdateEnds Reason
bind_ends source peer home careof = do
  s ← kinds.address source
  p ← kinds.address peer
  h ← kinds.address home
  c ← kinds.address careof
  Ok (update_ends s p h c)

-- the binding number, 0 where no field names it
abbrev pub number_named : Option (List ℕ) → Result ℕ Reason
number_named None = Ok 0
number_named (Some field) = binding_number field

unfoldable pub bind_numbers : ℕ → LinkId → UpdateEnds → (sequence lifetime home_test careof_test : List ℕ) → Option (List ℕ) → Result Event Reason
bind_numbers outsider link ends sequence lifetime home_test careof_test named = do
  q ← u16 sequence
  t ← u16 lifetime
  k ← u32 home_test
  j ← kinds.some_packet careof_test
  n ← number_named named
  Ok (events.Bind outsider link ends q t k j n)
