-- The correspondents of a run, and what their calls leave in it.
use Rattle.std.specs.Prelude.{◌≡◌, ℕ, List, Some, slice_get}
use Rattle.mip_entries.specs.declared.answer.Answer.{Answer}
use Rattle.mip_rules_correspondent.specs.declared.identity.Identity.{Identity}
use Rattle.mip_rules_correspondent.specs.declared.known.Known.{Known}
use Rattle.mip_rules_correspondent.specs.Calls as correspondents
use Rattle.mip_rules_correspondent.specs.Steps.{answers_of}
use Rattle.mip_rules_correspondent.specs.Doing.{transition_of}
use Rattle.mip_history.specs.Setup.{Setup, Host}
use Rattle.mip_history.specs.Setup.Kind.{Correspondent}
use Rattle.mip_history.specs.Runs.{Run}
use Rattle.mip_history.specs.RunsLaws.{IsRun}
use Rattle.mip_history.specs.Questions.{life_in}
use Rattle.mip_history.specs.Knowing.{link_or_first, now_in, identity_in, known_in}
use Rattle.mip_history.specs.Nodes.{answered}
use Rattle.mip_afresh.specs.declared.acted.Acted.{Acted}
use Rattle.mip_afresh.specs.declared.acted.Asked.{Asked}
use Rattle.mip_afresh.specs.Tellings.{TellingSeen, acted_one}
use Rattle.mip_afresh_nodes.specs.declared.member.Member.{Member}

abbrev pub host_of : Member → Host
host_of m = record { address = m.own; kind = Correspondent m.room }

-- the schedule declares this correspondent
abbrev pub IsMember : Setup → Member → Type 0
IsMember s m = slice_get s.hosts m.node.0 ≡ Some (host_of m)

-- it stands in a run that is between two calls of its nodes
pub record Stands (t : TellingSeen) (m : Member) : Type 0 where
  pub run : IsRun t.setup t.run
  pub member : IsMember t.setup m

pub record StandingSeen : Type 0 where
  pub telling : TellingSeen
  pub member : Member

-- what it knows
abbrev pub known_to : Setup → Run → Member → Known
known_to s run m = known_in s run m.node.0 m.room

-- a call of it, with who it is as it is called
abbrev pub call_of : Setup → Run → Member → Asked → Acted
call_of s run m asked = record {
  node = m.node;
  own = m.own;
  room = m.room;
  life = life_in run.past m.node.0;
  at = record { 0 = now_in s run };
  asked = asked;
}

abbrev pub identity_at : StandingSeen → Identity
identity_at s = identity_in s.telling.setup s.telling.run s.member.node.0 s.member.own s.member.room

abbrev pub known_at : StandingSeen → Known
known_at s = known_to s.telling.setup s.telling.run s.member

abbrev pub moment_at : StandingSeen → ℕ
moment_at s = now_in s.telling.setup s.telling.run

-- the call is behind it, and it has done this
abbrev pub after_call : Setup → Run → Member → Asked → List Answer → Run
after_call s run m asked answers =
    answered s m.node.0 (link_or_first s m.own.0) (record run { pasts = acted_one s run.pasts (call_of s run m asked) }) answers

-- this is what it does about a call
abbrev pub AreAnswers : Setup → Run → Member → correspondents.Call → List Answer → Type 0
AreAnswers s run m call answers = answers ≡ answers_of (transition_of (identity_in s run m.node.0 m.own m.room) (known_to s run m) (now_in s run) call).steps

abbrev pub AreAnswersAt : StandingSeen → correspondents.Call → List Answer → Type 0
AreAnswersAt s call answers = AreAnswers s.telling.setup s.telling.run s.member call answers
