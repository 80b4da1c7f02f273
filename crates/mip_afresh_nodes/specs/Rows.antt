-- The entries of rows that are shown.
use Rattle.std.specs.Prelude.{◌≡◌, ℕ, List, Option, Some, None}
use Rattle.mip_words.specs.declared.ids.NodeId.{NodeId}
use Rattle.mip_binding.specs.Rows.{BindingRow}
use Rattle.mip_entries.specs.declared.entry.Entry.{Entry}
use Rattle.mip_entries.specs.declared.entry.Entry.TheVariants as entries
use Rattle.mip_history.specs.Setup.{Setup}
use Rattle.mip_history.specs.Runs.{Run, note, notes}
use Rattle.mip_history.specs.Nodes.{shown}

abbrev pub entry_of : NodeId → BindingRow → Entry
entry_of node r = entries.Row node (record { 0 = r.home }) r.number (record { 0 = r.careof }) r.sequence (record { 0 = r.end }) (record { 0 = r.kept_until })

-- these are the entries that node n shows, and where there are none it is no node
abbrev pub AreShown : Setup → Run → ℕ → Option (List Entry) → Type 0
AreShown s run n None = note entries.Idle run ≡ shown s n run
AreShown s run n (Some es) = notes es run ≡ shown s n run
