-- What a mobile knows of its past, and what each step makes of it.
use Rattle.std.specs.Prelude.{ℕ, List, [], false, Option, None}
use Rattle.mip_words.specs.declared.address.Address.{Address}
use Rattle.mip_nonce.specs.Secrets.{Life}
use Rattle.mip_entries.specs.Stamped.{Stamped}
use Rattle.mip_entries.specs.Transitions.{known_by, last_after}
use Rattle.mip_rules_correspondent.specs.Questions as parts
use Rattle.mip_rules_correspondent.specs.Seen.{CorrespondentSeen, called}
use Rattle.mip_rules_mobile.specs.declared.attachment.Attachment.TheVariants.{AtHome}
use Rattle.mip_rules_mobile.specs.Steps.{Step, Parts, Restarts, is_call}
use Rattle.mip_rules_mobile.specs.Known.{Known}
use Rattle.mip_rules_mobile.specs.HomeQuestions.{standing_after, places_after, registered_after, latest_after, agent_after, owes_after, numberings_after, wait_after}
use Rattle.mip_rules_mobile.specs.DiscoveryQuestions.{discovery_after, discoveries_after, found_after, tried_after, chosen_after, solicitations_after}
use Rattle.mip_rules_mobile.specs.RowQuestions.{rows_after, peers_after, cookies_after, fresh_peers}
use Rattle.mip_rules_mobile.specs.TimerQuestions.{timers_after}

-- how many homes its correspondent part keeps
abbrev pub part_room : ℕ
part_room = 16

-- a correspondent part to which nothing happened yet, with so many bindings for each home
abbrev pub fresh_part : Address → (numbers : ℕ) → Life → CorrespondentSeen
fresh_part home numbers secrets = record { identity = record { own = home; secrets = secrets; room = part_room }; known = parts.fresh part_room numbers }

-- the correspondent part: what its calls make of it; a restart gives it new secrets
abbrev pub part_after : CorrespondentSeen → ℕ → Step → CorrespondentSeen
part_after part at (Parts call) = called part at call
part_after part at (Restarts secrets) = fresh_part part.identity.own part.known.cache.numbers secrets
part_after part at _ = part

-- one step more
unfoldable pub after : Known → Stamped Step → Known
after k s = record {
  last = last_after (is_call s.step) k.last s.at;
  part = part_after k.part s.at s.step;
  declared = k.declared;
  standing = standing_after k s.step;
  places = places_after k s.step;
  registered = registered_after k s.step;
  latest = latest_after k s.at s.step;
  agent = agent_after k s.step;
  owes = owes_after k s.step;
  numberings = numberings_after k s.step;
  wait = wait_after k s.step;
  discovery = discovery_after k s.at s.step;
  discoveries = discoveries_after k s.step;
  found = found_after k s.step;
  tried = tried_after k s.step;
  chosen = chosen_after k s.step;
  solicitations = solicitations_after k s.step;
  cookies = cookies_after k s.step;
  list = record { rows = rows_after k.list.rows s.at s.step; timers = timers_after k.list.timers s.at s.step };
  peers = peers_after k.peers s.step;
}

-- a new mobile: its home address, the agent that it is declared with, how many bindings its part has for each home, and the
-- secrets of its first life
abbrev pub fresh : Address → Option Address → (numbers : ℕ) → Life → Known
fresh home declared numbers secrets = record {
  last = record { 0 = 0 };
  part = fresh_part home numbers secrets;
  declared = declared;
  standing = AtHome;
  places = 0;
  registered = None;
  latest = None;
  agent = None;
  owes = false;
  numberings = [];
  wait = 0;
  discovery = None;
  discoveries = 1;
  found = [];
  tried = 0;
  chosen = None;
  solicitations = 1;
  cookies = 0;
  list = record { rows = []; timers = [] };
  peers = fresh_peers;
}

-- what a past leaves known
unfoldable pub known : Address → Option Address → (numbers : ℕ) → Life → List (Stamped Step) → Known
known home declared numbers secrets past = known_by after (fresh home declared numbers secrets) past
