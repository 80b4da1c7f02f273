-- An update to a peer, as what is sent names it. RFC 6275 section 11.7.2
use Rattle.mip_rules_mobile.specs.Sendings.{PeerUpdate}
use Rattle.mip_mobile_routability.specs.declared.keyed_update.KeyedUpdate.{KeyedUpdate}

abbrev pub peer_update : KeyedUpdate → PeerUpdate
peer_update u = record { home = u.home; source = u.source; peer = u.peer; number = u.number; made = u.made.now }
