-- The rows that a node shows at the end of a run.
use Rattle.std.proofs.Common.{◌≡◌, ℕ, List, ap, ◌∙◌}
use Rattle.std.specs.Prelude.{map, Option, Some, slice_get}
use Rattle.std.specs.List.{AllByRecursion}
use Rattle.mip_words.specs.declared.address.Address.{Address}
use Rattle.mip_binding.specs.Homes.{shown_rows as rows_of}
use Rattle.mip_bcache.specs.Seen.{seen_row, rows_at}
use Rattle.mip_schedule.specs.declared.event.Event.{Event}
use Rattle.mip_rules_correspondent.specs.Seen.{CorrespondentSeen}
use Rattle.mip_rules_mobile.specs.Questions.{part_room}
use Rattle.mip_rules_mobile.proofs.PartLives.{part_is}
use Rattle.mip_history.specs.Setup.{Setup}
use Rattle.mip_history.specs.SetupLaws.{is_correspondent_host}
use Rattle.mip_history.specs.Setup.Kind.{Correspondent, Mobile}
use Rattle.mip_history.specs.Runs.{past_at, mobile_past_at}
use Rattle.mip_history.specs.Knowing.{known_in, now_in, secrets_in, mobile_known_in}
use Rattle.mip_history.specs.KnowingLaws.{part_in}
use Rattle.mip_history.specs.Nodes.{rows_by_kind}
use Rattle.mip_history.specs.Permitted.{run_of}
use Rattle.mip_history.specs.Bound.{accepted_by}
use Rattle.mip_history.specs.Shown.{IsLastAcceptance}
use Rattle.mip_history.proofs.Events.{run_passes}
use Rattle.mip_history.proofs.ShownRows.{shown_rows, past_rows}

module _ (s : Setup) (events : List Event) (n : ℕ) (own : Address) (room : ℕ) (is : slice_get s.hosts n ≡ Some (record { address = own; kind = Correspondent room })) where
  pub run_table : map seen_row (rows_at (known_in s (run_of s events) n room).cache (now_in s (run_of s events))) ≡ rows_of (accepted_by s.start (run_of s events).past n) (now_in s (run_of s events))
  run_table = past_rows s (run_of s events).past (past_at (run_of s events) n) n room ((run_passes s events).run.pasts n (ap is_correspondent_host is))

  pub run_rows : AllByRecursion (IsLastAcceptance s (run_of s events).past n) (rows_by_kind s n own (run_of s events) (Correspondent room))
  run_rows = shown_rows s (run_of s events).past (run_passes s events).run.kept n (rows_at (known_in s (run_of s events) n room).cache (now_in s (run_of s events))) run_table

module _ (s : Setup) (events : List Event) (n : ℕ) (own : Address) (agent : Option Address) (is : slice_get s.hosts n ≡ Some (record { address = own; kind = Mobile agent })) where
  pub part_table : map seen_row (rows_at (mobile_known_in s (run_of s events) n own agent).part.known.cache (now_in s (run_of s events)))
      ≡ rows_of (accepted_by s.start (run_of s events).past n) (now_in s (run_of s events))
  part_table =
      let life = (part_in s (run_of s events) n own).past in
      ap (λ (c : CorrespondentSeen). map seen_row (rows_at c.known.cache (now_in s (run_of s events)))) (part_is own agent s.numbers (secrets_in s n 0) (mobile_past_at (run_of s events) n))
      ∙ past_rows s (run_of s events).past life n part_room ((run_passes s events).run.parts n own agent is).past

  pub part_rows : AllByRecursion (IsLastAcceptance s (run_of s events).past n) (rows_by_kind s n own (run_of s events) (Mobile agent))
  part_rows =
      shown_rows s (run_of s events).past (run_passes s events).run.kept n (rows_at (mobile_known_in s (run_of s events) n own agent).part.known.cache (now_in s (run_of s events))) part_table
