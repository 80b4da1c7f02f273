-- A node begins its next life.
use Rattle.std.proofs.Common.{◌≡◌, ℕ, ◌<◌, List, [], Bool, true, false, length, refl, sym, ap, ◌∙◌, subst, get_or-set_same}
use Rattle.std.specs.Prelude.{Option, Some, None, slice_get, slice_set, slice_index_or}
use Rattle.mip_words.specs.declared.address.Address.{Address}
use Rattle.mip_entries.specs.declared.entry.Entry.TheVariants.{Restarted}
use Rattle.mip_entries.specs.Completed.{node_id}
use Rattle.mip_entries.specs.Stamped.{Stamped}
use Rattle.mip_rules_agent.specs.Steps as agent_steps
use Rattle.mip_rules_agent.specs.Questions as agent_questions
use Rattle.mip_rules_agent.specs.Questions.{rows_at}
use Rattle.mip_history.specs.Setup.{Setup, Host, Kind, is_mobile_at, is_mobile_host}
use Rattle.mip_history.specs.Setup.Kind.{Correspondent, Agent as OfAgent, Mobile as OfMobile}
use Rattle.mip_history.specs.Runs.{Run, note, with_past, with_agent_past, agent_past_at}
use Rattle.mip_history.specs.Questions.{life_in}
use Rattle.mip_history.specs.Calls.{Restart}
use Rattle.mip_history.specs.Knowing.{now_in, secrets_in}
use Rattle.mip_history.specs.Nodes.{acts}
use Rattle.mip_history.specs.Restarting.{homes_left, reborn_by_kind, reborn_by_host, restarted}
use Rattle.mip_afresh_agent.specs.Agents as of_agent
use Rattle.mip_afresh_agent.specs.Agents.{AgentSeen}
use Rattle.mip_afresh.specs.Roles.{agent_host, IsAgent}
use Rattle.mip_afresh_nodes.proofs.CallLaws.{set_again}

pub mobile_reborn : (s : Setup) (run : Run) (n : ℕ) → is_mobile_at s n ≡ true
    → acts s n (Restart (secrets_in s n (life_in (note (Restarted (node_id n)) run).past n))) (note (Restarted (node_id n)) run) ≡ restarted s run n
unfolding restarted
mobile_reborn s run n is = by (slice_get s.hosts n) is
  where
    by : (o : Option Host) → is_mobile_host o ≡ true → acts s n (Restart (secrets_in s n (life_in (note (Restarted (node_id n)) run).past n))) (note (Restarted (node_id n)) run) ≡ reborn_by_host s n run o
    by None is = absurd cc
    by (Some host) is = of_kind host.kind is
      where
        of_kind : (kind : Kind) → is_mobile_host (Some (record { address = host.address; kind = kind })) ≡ true
            → acts s n (Restart (secrets_in s n (life_in (note (Restarted (node_id n)) run).past n))) (note (Restarted (node_id n)) run) ≡ reborn_by_kind s n run kind
        of_kind (Correspondent room) is = absurd cc
        of_kind (OfAgent preference life room serves) is = absurd cc
        of_kind (OfMobile agent) is = refl

pub agent_reborn : (s : Setup) (run : Run) (n : ℕ) (a : AgentSeen) → IsAgent s n a → n < length run.agent_pasts
    → homes_left s n (rows_at (now_in s run) (of_agent.known_to a).homes) (note (Restarted (node_id n)) (with_agent_past n [] run)) ≡ restarted s (with_agent_past n a.past run) n
unfolding restarted
agent_reborn s run n a is inside =
    sym (ap (reborn_by_host s n (with_agent_past n a.past run)) is
    ∙ ap (λ (p : List (Stamped agent_steps.Step)). homes_left s n (rows_at (now_in s run) (agent_questions.known a.serves p).homes) (note (Restarted (node_id n)) (with_agent_past n [] (with_agent_past n a.past run)))) (get_or-set_same run.agent_pasts n a.past [] inside)
    ∙ ap (λ (l : List (List (Stamped agent_steps.Step))). homes_left s n (rows_at (now_in s run) (of_agent.known_to a).homes) (note (Restarted (node_id n)) (record run { agent_pasts = l }))) (set_again run.agent_pasts n a.past []))
