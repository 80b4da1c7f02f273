-- What a mobile knows of its past: one question a field. RFC 6275 sections 4.5 and 11.1
use Rattle.std.specs.Prelude.{ℕ, Bool, List, Option}
use Rattle.mip_words.specs.declared.address.Address.{Address}
use Rattle.mip_words.specs.declared.moment.Moment.{Moment}
use Rattle.mip_discovery.specs.Retries.{DiscoverySeen}
use Rattle.mip_bulist.specs.Lists.{ListSeen}
use Rattle.mip_rules_correspondent.specs.Seen.{CorrespondentSeen}
use Rattle.mip_rules_mobile.specs.declared.attachment.Attachment.{Attachment}
use Rattle.mip_rules_mobile.specs.declared.registered.Registered.{Registered}
use Rattle.mip_rules_mobile.specs.declared.home_update.HomeUpdate.{HomeUpdate}
use Rattle.mip_rules_mobile.specs.declared.numbering.Numbering.{Numbering}
use Rattle.mip_rules_mobile.specs.declared.peer.Peer.{Peer}

pub record Known : Type 0 where
  -- the moment of the last call, 0 before the first
  pub last : Moment
  -- its correspondent part, whose own address is the home address
  pub part : CorrespondentSeen
  -- the agent that it was declared with, none where it is to find one
  pub declared : Option Address
  -- where it stands
  pub standing : Attachment
  -- how many places it came to since it last restarted, addresses other than its home, counted modulo the numbers that its
  -- bindings may have
  pub places : ℕ
  -- the home registration that was acknowledged
  pub registered : Option Registered
  -- the last home registration or deregistration of this life
  pub latest : Option HomeUpdate
  -- the agent that the last home registration of this life went to
  pub agent : Option Address
  -- a home registration was sent that no deregistration and no end has undone
  pub owes : Bool
  -- the sequences that the next home registrations take, agent by agent
  pub numberings : List Numbering
  -- how many milliseconds the resending of the last home registration waits, where one is under way
  pub wait : ℕ
  -- the discovery of agents that is under way
  pub discovery : Option DiscoverySeen
  -- the identifier of the next discovery
  pub discoveries : ℕ
  -- the agents that the last matching reply named, and how many of them were chosen since
  pub found : List Address
  pub tried : ℕ
  -- the agent that was chosen last
  pub chosen : Option Address
  -- the identifier of the next Mobile Prefix Solicitation
  pub solicitations : ℕ
  -- the number of the next cookie
  pub cookies : ℕ
  -- a row for each peer, with its trial, and the timers
  pub list : ListSeen
  -- what else is kept of each row's peer
  pub peers : List Peer
