-- The rows by what a correspondent accepted are those of its cache.
use Rattle.std.proofs.Common.{◌≡◌, ℕ, List, [], ◌∷◌, refl, sym, ap, ◌∙◌}
use Rattle.std.specs.Prelude.{map}
use Rattle.mip_words.specs.declared.ids.NodeId.{NodeId}
use Rattle.mip_binding.specs.Acceptance.{Acceptance}
use Rattle.mip_binding.specs.Rows.{BindingRow}
use Rattle.mip_binding.specs.Homes.{shown_rows}
use Rattle.mip_bcache.specs.declared.row.Row.{Row}
use Rattle.mip_bcache.specs.Seen.{seen_row, rows_at}
use Rattle.mip_entries.specs.declared.entry.Entry.{Entry}
use Rattle.mip_history.specs.Setup.{Setup}
use Rattle.mip_history.specs.SetupLaws.{is_correspondent_host}
use Rattle.mip_history.specs.Runs.{Run, notes, past_at}
use Rattle.mip_history.specs.RunsLaws.{IsRun}
use Rattle.mip_history.specs.Knowing.{now_in}
use Rattle.mip_history.specs.Nodes.{row_entry, rows_shown, shown}
use Rattle.mip_history.specs.Bound.{accepted_by}
use Rattle.mip_history.proofs.ShownRows.{past_rows}
use Rattle.mip_afresh_nodes.specs.declared.member.Member.{Member}
use Rattle.mip_afresh_nodes.specs.Members.{IsMember, known_to}
use Rattle.mip_afresh_nodes.specs.Rows.{entry_of}

-- the entry of a row is that of what it shows
pub entries_seen : (node : NodeId) (rows : List Row) → map (row_entry node.0) rows ≡ map (entry_of node) (map seen_row rows)
entries_seen node [] = refl
entries_seen node (r ∷ rows) = ap (λ (es : List Entry). row_entry node.0 r ∷ es) (entries_seen node rows)

pub member_rows : (s : Setup) (run : Run) (m : Member) (xs : List Acceptance) (now : ℕ) (rows : List BindingRow) → IsRun s run → IsMember s m
    → now ≡ now_in s run → xs ≡ accepted_by s.start run.past m.node.0 → rows ≡ shown_rows xs now
    → map (entry_of m.node) rows ≡ map (row_entry m.node.0) (rows_at (known_to s run m).cache (now_in s run))
member_rows s run m xs now rows is host late took e =
    ap (map (entry_of m.node))
    (e ∙ ap (λ (l : List Acceptance). shown_rows l now) took ∙ ap (shown_rows (accepted_by s.start run.past m.node.0)) late
    ∙ sym (past_rows s run.past (past_at run m.node.0) m.node.0 m.room (is.pasts m.node.0 (ap is_correspondent_host host))))
    ∙ sym (entries_seen m.node (rows_at (known_to s run m).cache (now_in s run)))

-- and these are what it shows
pub member_shown : (s : Setup) (run : Run) (m : Member) (es : List Entry) → IsMember s m → es ≡ map (row_entry m.node.0) (rows_at (known_to s run m).cache (now_in s run))
    → notes es run ≡ shown s m.node.0 run
member_shown s run m es host e = ap (λ (l : List Entry). notes l run) e ∙ sym (ap (rows_shown s m.node.0 run) host)
