-- A telling: what a schedule declares, and a run of it.
use Rattle.std.specs.Prelude.{List, [], map, fold, slice_set, slice_index_or}
use Rattle.mip_entries.specs.Stamped.{Stamped}
use Rattle.mip_rules_correspondent.specs.Calls as calls
use Rattle.mip_rules_correspondent.specs.Calls.{Call}
use Rattle.mip_rules_correspondent.specs.Steps.{Step}
use Rattle.mip_rules_correspondent.specs.Questions.{known}
use Rattle.mip_rules_correspondent.specs.Transitions.{with_transition}
use Rattle.mip_rules_correspondent.specs.Doing.{transition_of}
use Rattle.mip_links.specs.Table.{Post}
use Rattle.mip_history.specs.Setup.{Setup, Host, Kind}
use Rattle.mip_history.specs.Setup.Kind.{Correspondent, Agent, Mobile}
use Rattle.mip_history.specs.Runs.{Run}
use Rattle.mip_history.specs.Knowing.{secrets_in}
use Rattle.mip_afresh.specs.declared.kind.Kind as declared_kind
use Rattle.mip_afresh.specs.declared.kind.Kind.TheVariants as kinds
use Rattle.mip_afresh.specs.declared.host.Host as declared_host
use Rattle.mip_afresh.specs.declared.posted.Posted.{Posted}
use Rattle.mip_afresh.specs.declared.acted.Acted.{Acted}
use Rattle.mip_afresh.specs.declared.acted.Asked.{Asked}
use Rattle.mip_afresh.specs.declared.acted.Asked.TheVariants.{Take, Refresh, Send, Restart}

pub record TellingSeen : Type 0 where
  pub setup : Setup
  pub run : Run

abbrev pub with_run : Run → TellingSeen → TellingSeen
with_run run t = record { setup = t.setup; run = run }

-- a node as it is declared
abbrev pub kind_seen : declared_kind.Kind → Kind
kind_seen (kinds.Correspondent room) = Correspondent room
kind_seen (kinds.Agent preference life room serves) = Agent preference life room serves.items
kind_seen (kinds.Mobile agent) = Mobile agent

abbrev pub host_seen : declared_host.Host → Host
host_seen h = record { address = h.address; kind = kind_seen h.kind }

-- a packet as it was posted
abbrev pub post_seen : Posted → Post
post_seen p = record { from = p.from.0; shield = p.shield; packet = p.packet }

-- a call of a correspondent that is no restart makes its past longer by its transition
abbrev pub with_call : Setup → Acted → Call → List (Stamped Step) → List (Stamped Step)
with_call s a call past =
    with_transition past (transition_of (record { own = a.own; secrets = secrets_in s a.node.0 a.life; room = a.room }) (known a.room s.numbers past) a.at.0 call)

abbrev pub past_with : Setup → Acted → Asked → List (Stamped Step) → List (Stamped Step)
past_with s a (Take number shield packet) past = with_call s a (calls.Take number shield packet) past
past_with s a (Refresh home) past = with_call s a (calls.Refresh home) past
past_with s a (Send to proto payload) past = with_call s a (calls.Send to proto payload) past
past_with s a Restart past = []

-- what a call leaves of the pasts of the nodes
abbrev pub acted_one : Setup → List (List (Stamped Step)) → Acted → List (List (Stamped Step))
acted_one s pasts a = slice_set pasts a.node.0 (past_with s a a.asked (slice_index_or pasts a.node.0 []))

-- before the first call
abbrev pub no_pasts : {S : Type 0} → Setup → List (List (Stamped S))
no_pasts s = map (λ host. []) s.hosts

abbrev pub pasts_of : Setup → List Acted → List (List (Stamped Step))
pasts_of s acted = fold (acted_one s) (no_pasts s) acted
