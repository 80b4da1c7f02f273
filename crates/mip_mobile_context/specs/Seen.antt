-- A mobile as contracts see it.
use Rattle.std.specs.Prelude.{◌≡◌, ℕ, ◌^◌, ◌<◌, ◌≤◌, List, true, IfSome}
use Rattle.mip_words.specs.Addresses.{is_routable}
use Rattle.mip_words.specs.declared.address.Address.{Address}
use Rattle.mip_entries.specs.declared.answer.Answer.{Answer}
use Rattle.mip_entries.specs.Shows.{ShowsBy}
use Rattle.mip_rules_mobile.specs.Sendings.{Sending, FromHome, ByTunnel, AsksCareof, SendsData, Discovers}
use Rattle.mip_rules_mobile.specs.Known.{Known}
use Rattle.mip_rules_mobile.specs.HomeQuestions.{home_of}
use Rattle.mip_rules_mobile.specs.Steps.{answer_of}
use Rattle.mip_rules_mobile.specs.Transitions.{Transition}
use Rattle.mip_mobile_state.specs.Mine.{AreMine}
use Rattle.mip_mobile_state.specs.Early.{AreEarly}

-- a call under way: its moment, what is known, and the answers so far
pub record ContextSeen : Type 0 where
  pub moment : ℕ
  pub known : Known
  pub answers : List Answer

-- the moment is no later than a clock says, the correspondent part's last call no later than that, and the home address
-- may stand in an option, each trial is with its row's peer, and no update was sent later than a clock says
pub record IsSound (d : ContextSeen) (address : Address) : Type 0 where
  pub own : address ≡ home_of d.known
  pub early : d.moment < 2 ^ 62
  pub later : d.known.part.known.last.0 ≤ d.moment
  pub home : is_routable (home_of d.known).0 ≡ true
  pub mine : AreMine d.known.list.rows
  pub sent : AreEarly d.known.list.rows
  pub registered : IfSome d.known.latest (λ u. u.at.0 < 2 ^ 62)

-- the context shows a transition
abbrev pub Shows : ContextSeen → Transition → Type 0
Shows d t = ShowsBy answer_of d.moment d.known d.answers t

-- a packet whose sending changes nothing of what is known
abbrev pub IsNeutral : Sending → Type 0
IsNeutral (FromHome home inner) = Unit {0}
IsNeutral (ByTunnel home careof agent inner) = Unit {0}
IsNeutral (AsksCareof careof peer cookie) = Unit {0}
IsNeutral (SendsData home careof to held proto payload) = Unit {0}
IsNeutral (Discovers home careof identifier) = Unit {0}
IsNeutral _ = ⊥
