-- A node begins its next life: it loses all that it knows. RFC 6275 section 11.5.1 has a mobile register anew.
use Rattle.std.specs.Prelude.{ℕ, List, [], ◌∷◌, Option, Some, None, slice_get}
use Rattle.mip_entries.specs.declared.entry.Entry.TheVariants.{Restarted}
use Rattle.mip_entries.specs.Completed.{node_id}
use Rattle.mip_rules_agent.specs.declared.home_row.HomeRow.{HomeRow}
use Rattle.mip_rules_agent.specs.Questions.{rows_at}
use Rattle.mip_history.specs.Setup.{Setup, Host, Kind}
use Rattle.mip_history.specs.Setup.Kind.{Correspondent, Agent, Mobile}
use Rattle.mip_history.specs.Runs.{Run, note, with_past, with_agent_past}
use Rattle.mip_history.specs.Questions.{life_in}
use Rattle.mip_history.specs.Calls.{Restart}
use Rattle.mip_history.specs.Knowing.{now_in, secrets_in, agent_known_in}
use Rattle.mip_history.specs.Homes.{gives_up}
use Rattle.mip_history.specs.Nodes.{acts}

-- an agent gives up the homes that it had registered, in order of address
unfoldable pub homes_left : Setup → ℕ → List HomeRow → Run → Run
homes_left s n [] run = run
homes_left s n (r ∷ rows) run = homes_left s n rows (gives_up s n r.home run)

-- a mobile stays where it stands, and goes on with the secrets of its new life
abbrev pub reborn_by_kind : Setup → ℕ → Run → Kind → Run
reborn_by_kind s n run (Correspondent room) = note (Restarted (node_id n)) (with_past n [] run)
reborn_by_kind s n run (Agent preference life room serves) =
    homes_left s n (rows_at (now_in s run) (agent_known_in run n serves).homes) (note (Restarted (node_id n)) (with_agent_past n [] run))
reborn_by_kind s n run (Mobile agent) =
    let reborn = note (Restarted (node_id n)) run in acts s n (Restart (secrets_in s n (life_in reborn.past n))) reborn

abbrev pub reborn_by_host : Setup → ℕ → Run → Option Host → Run
reborn_by_host s n run None = note (Restarted (node_id n)) run
reborn_by_host s n run (Some host) = reborn_by_kind s n run host.kind

unfoldable pub restarted : Setup → Run → ℕ → Run
restarted s run n = reborn_by_host s n run (slice_get s.hosts n)
