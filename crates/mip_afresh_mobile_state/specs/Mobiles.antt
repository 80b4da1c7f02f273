-- What a mobile knows, but for the bindings of its correspondent part, which are asked of the entries. RFC 6275 sections 4.5 and 11.1
use Rattle.std.specs.Prelude.{ℕ, ◌+◌, ◌%◌, ◌==◌, Bool, if◌then◌else◌, List, Option}
use Rattle.mip_words.specs.declared.address.Address.{Address}
use Rattle.mip_discovery.specs.Retries.{DiscoverySeen}
use Rattle.mip_bulist.specs.Lists.{ListSeen}
use Rattle.mip_bulist.specs.declared.work.Work.{Work}
use Rattle.mip_bulist.specs.declared.work.Work.TheVariants.{Resend, Home}
use Rattle.mip_rules_correspondent.specs.declared.identity.Identity.{Identity}
use Rattle.mip_rules_mobile.specs.declared.attachment.Attachment.{Attachment}
use Rattle.mip_rules_mobile.specs.declared.registered.Registered.{Registered}
use Rattle.mip_rules_mobile.specs.declared.home_update.HomeUpdate.{HomeUpdate}
use Rattle.mip_rules_mobile.specs.declared.numbering.Numbering.{Numbering}
use Rattle.mip_rules_mobile.specs.declared.peer.Peer.{Peer}
use Rattle.mip_rules_correspondent.specs.Questions.{fresh}
use Rattle.mip_rules_mobile.specs.Questions.{part_room}
use Rattle.mip_rules_mobile.specs.HomeQuestions.{wait_set_by}
use Rattle.mip_rules_mobile.specs.RowQuestions.{with_peer, waiting}
use Rattle.mip_rules_mobile.specs.Known.{Known}

pub record MobileSeen : Type 0 where
  -- its home address, and the secrets of its present life
  pub identity : Identity
  -- how many numbers its bindings may have
  pub numbers : ℕ
  pub declared : Option Address
  pub standing : Attachment
  pub places : ℕ
  pub registered : Option Registered
  pub latest : Option HomeUpdate
  pub agent : Option Address
  pub owes : Bool
  pub numberings : List Numbering
  pub wait : ℕ
  pub discovery : Option DiscoverySeen
  pub discoveries : ℕ
  pub found : List Address
  pub tried : ℕ
  pub chosen : Option Address
  pub solicitations : ℕ
  pub cookies : ℕ
  pub list : ListSeen
  pub peers : List Peer

abbrev pub seen_of : Known → MobileSeen
seen_of k = record {
  identity = k.part.identity;
  numbers = k.part.known.cache.numbers;
  declared = k.declared;
  standing = k.standing;
  places = k.places;
  registered = k.registered;
  latest = k.latest;
  agent = k.agent;
  owes = k.owes;
  numberings = k.numberings;
  wait = k.wait;
  discovery = k.discovery;
  discoveries = k.discoveries;
  found = k.found;
  tried = k.tried;
  chosen = k.chosen;
  solicitations = k.solicitations;
  cookies = k.cookies;
  list = k.list;
  peers = k.peers;
}

-- one of which a mobile would know this
abbrev pub known_of : MobileSeen → Known
known_of m = record {
  last = record { 0 = 0 };
  part = record { identity = m.identity; known = fresh part_room m.numbers };
  declared = m.declared;
  standing = m.standing;
  places = m.places;
  registered = m.registered;
  latest = m.latest;
  agent = m.agent;
  owes = m.owes;
  numberings = m.numberings;
  wait = m.wait;
  discovery = m.discovery;
  discoveries = m.discoveries;
  found = m.found;
  tried = m.tried;
  chosen = m.chosen;
  solicitations = m.solicitations;
  cookies = m.cookies;
  list = m.list;
  peers = m.peers;
}

-- how many places there are at an address: one more where it is not home
abbrev pub places_on : Address → MobileSeen → ℕ
places_on address m = if address.0 == m.identity.own.0 then m.places else (m.places + 1) % m.numbers

-- how long resendings wait once a timer is set
abbrev pub waited : Work → ℕ → MobileSeen → MobileSeen
waited (Resend row) ms m = record m { peers = with_peer row (waiting ms) m.peers }
waited (Home timer) ms m = record m { wait = wait_set_by timer ms m.wait }
waited _ ms m = m
