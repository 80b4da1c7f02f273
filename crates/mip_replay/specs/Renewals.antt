-- What becomes of a node that begins its next life, once that is noted.
use Rattle.std.specs.Prelude.{ℕ, List, []}
use Rattle.mip_entries.specs.declared.entry.Entry.TheVariants.{Restarted}
use Rattle.mip_entries.specs.Completed.{node_id}
use Rattle.mip_rules_agent.specs.declared.home_row.HomeRow.{HomeRow}
use Rattle.mip_history.specs.Setup.{Setup, Kind}
use Rattle.mip_history.specs.Setup.Kind.{Correspondent, Agent, Mobile}
use Rattle.mip_history.specs.Runs.{Run, note, with_past, with_agent_past}
use Rattle.mip_history.specs.Questions.{life_in}
use Rattle.mip_history.specs.Calls.{Restart}
use Rattle.mip_history.specs.Knowing.{secrets_in}
use Rattle.mip_history.specs.Nodes.{acts}
use Rattle.mip_history.specs.Restarting.{homes_left}

-- a correspondent and an agent have nothing behind them
abbrev pub emptied : ℕ → Run → Kind → Run
emptied n run (Correspondent room) = with_past n [] run
emptied n run (Agent preference life room serves) = with_agent_past n [] run
emptied n run (Mobile agent) = run

abbrev pub renewed : ℕ → Run → Kind → Run
renewed n run kind = note (Restarted (node_id n)) (emptied n run kind)

-- an agent gives up the homes that it had, a mobile registers anew
abbrev pub begun_anew : Setup → ℕ → List HomeRow → Run → Kind → Run
begun_anew s n homes run (Correspondent room) = homes_left s n homes run
begun_anew s n homes run (Agent preference life room serves) = homes_left s n homes run
begun_anew s n homes run (Mobile agent) = acts s n (Restart (secrets_in s n (life_in run.past n))) run
