-- What a mobile keeps, as its rules know it.
use Rattle.mip_rules_mobile.specs.Known.{Known}
use Rattle.mip_mobile_state.specs.declared.mobile_state.MobileState.{MobileState}

-- what is kept, as the rules know it
abbrev pub seen : MobileState → Known
seen k = record {
  last = k.last;
  part = k.part;
  declared = k.declared;
  standing = k.standing;
  places = k.places;
  registered = k.registered;
  latest = k.latest;
  agent = k.agent;
  owes = k.owes;
  numberings = k.numberings;
  wait = k.wait;
  discovery = k.discovery;
  discoveries = k.discoveries;
  found = k.found;
  tried = k.tried;
  chosen = k.chosen;
  solicitations = k.solicitations;
  cookies = k.cookies;
  list = k.list;
  peers = k.peers;
}
