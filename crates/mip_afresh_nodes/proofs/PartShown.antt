-- What the correspondent part of a mobile shows.
use Rattle.std.proofs.Common.{◌≡◌, ℕ, List, true, refl, sym, ap, ◌∙◌}
use Rattle.std.specs.Prelude.{Option, Some, None, map, slice_get}
use Rattle.mip_words.specs.declared.address.Address.{Address}
use Rattle.mip_words.specs.declared.ids.NodeId.{NodeId}
use Rattle.mip_binding.specs.Acceptance.{Acceptance}
use Rattle.mip_binding.specs.Rows.{BindingRow}
use Rattle.mip_binding.specs.Homes.{shown_rows}
use Rattle.mip_bcache.specs.Seen.{seen_row, rows_at}
use Rattle.mip_entries.specs.declared.entry.Entry.{Entry}
use Rattle.mip_entries.specs.Stamped.{Stamped}
use Rattle.mip_rules_correspondent.specs.Steps.{Step}
use Rattle.mip_rules_correspondent.specs.Seen.{CorrespondentSeen}
use Rattle.mip_rules_mobile.specs.Questions.{part_room}
use Rattle.mip_rules_mobile.specs.PartLaws.{PartLife}
use Rattle.mip_rules_mobile.proofs.PartLives.{part_is}
use Rattle.mip_history.specs.Setup.{Setup, Host, Kind, is_mobile_at, is_mobile_host}
use Rattle.mip_history.specs.Setup.Kind.{Correspondent, Agent, Mobile}
use Rattle.mip_history.specs.Runs.{Run, notes, mobile_past_at}
use Rattle.mip_history.specs.RunsLaws.{IsRun, IsPast}
use Rattle.mip_history.specs.Knowing.{now_in, secrets_in, mobile_known_in}
use Rattle.mip_history.specs.KnowingLaws.{part_in}
use Rattle.mip_history.specs.Nodes.{row_entry, rows_shown, shown}
use Rattle.mip_history.specs.Bound.{accepted_by}
use Rattle.mip_history.proofs.ShownRows.{past_rows}
use Rattle.mip_afresh_nodes.specs.Rows.{entry_of}
use Rattle.mip_afresh_nodes.proofs.ShowingLaws.{entries_seen}

-- a mobile, as it is declared
record IsDeclared (s : Setup) (n : ℕ) : Type 0 where
  home : Address
  agent : Option Address
  host : slice_get s.hosts n ≡ Some (record { address = home; kind = Mobile agent })

declared : (s : Setup) (n : ℕ) → is_mobile_at s n ≡ true → IsDeclared s n
declared s n is = by (slice_get s.hosts n) refl is
  where
    by : (o : Option Host) → slice_get s.hosts n ≡ o → is_mobile_host o ≡ true → IsDeclared s n
    by None at is = absurd cc
    by (Some host) at is = of_kind host.kind (at) is
      where
        of_kind : (kind : Kind) → slice_get s.hosts n ≡ Some (record { address = host.address; kind = kind }) → is_mobile_host (Some (record { address = host.address; kind = kind })) ≡ true → IsDeclared s n
        of_kind (Correspondent room) at is = absurd cc
        of_kind (Agent preference life room serves) at is = absurd cc
        of_kind (Mobile agent) at is = record { home = host.address; agent = agent; host = at }

module _ (s : Setup) (run : Run) (n : ℕ) (mobile : is_mobile_at s n ≡ true) (r : IsRun s run) where
  abbrev d : IsDeclared s n
  d = declared s n mobile

  lived : IsPast s run.past (part_in s run n d.home).past n
  lived = let part = r.parts n d.home d.agent d.host in part.past

pub part_shown : (s : Setup) (run : Run) (node : NodeId) (mobile : is_mobile_at s node.0 ≡ true) (r : IsRun s run) (xs : List Acceptance) (now : ℕ) → now ≡ now_in s run → xs ≡ accepted_by s.start run.past node.0
    → (rows : List BindingRow) → rows ≡ shown_rows xs now → (es : List Entry) → es ≡ map (entry_of node) rows → notes es run ≡ shown s node.0 run
part_shown s run node mobile r xs now late took rows found es e =
    let n = node.0 in
    let d = declared s n mobile in
    let p = lived s run n mobile r in
    let cache = (mobile_known_in s run n d.home d.agent).part.known.cache in
    let known_is = ap (λ (c : CorrespondentSeen). map (entry_of node) (map seen_row (rows_at c.known.cache (now_in s run)))) (part_is d.home d.agent s.numbers (secrets_in s n 0) (mobile_past_at run n)) in
    ap (λ (l : List Entry). notes l run)
    (e ∙ ap (map (entry_of node)) (found ∙ ap (λ (l : List Acceptance). shown_rows l now) took ∙ ap (shown_rows (accepted_by s.start run.past n)) late
    ∙ sym (past_rows s run.past (part_in s run n d.home).past n part_room p))
    ∙ sym known_is ∙ sym (entries_seen node (rows_at cache (now_in s run))))
    ∙ sym (ap (rows_shown s n run) d.host)
