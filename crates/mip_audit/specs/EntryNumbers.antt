-- An entry as numbers: its kind, what it says field by field, and its bytes last. Two entries are the same where their numbers are
-- (`entries_are_their_numbers`). An optional field is two numbers: 1 and what it says, or 0 and 0.
use Rattle.std.specs.Prelude.{ℕ, Bool, true, false, List, [], ◌∷◌, ◌++◌, length, Some, None, is_some, unwrap_or}
use Rattle.mip_words.specs.declared.why.Why.{Why}
use Rattle.mip_words.specs.declared.why.Why.TheVariants as whys
use Rattle.mip_entries.specs.declared.entry.Entry.{Entry}
use Rattle.mip_entries.specs.declared.entry.Entry.TheVariants.{Sent, Handed, Gone, Lost, Unsent, Denied, Dropped, Up, Injected, Heard, Listening, Deafened, Claimed, Released, Taken, At, Idle, Restarted, Settled, Moved, Advertised, Careof, Prefixes, Registered, Unregistered, Refused, Chosen, Made, Bound, Unbound, Accepted, Origin, Forged, Home, Row}

abbrev pub flag : Bool → ℕ
flag true = 1
flag false = 0

-- the place of a reason among all
abbrev pub why_place : Why → ℕ
why_place whys.NoLink = 0
why_place whys.Hop = 1
why_place whys.NoHolder = 2
why_place whys.Shield = 3
why_place whys.Detached = 4
why_place whys.Unregistered = 5
why_place whys.NoRoute = 6
why_place whys.Size = 7
why_place whys.Short = 8
why_place whys.Version = 9
why_place whys.Length = 10
why_place whys.Header = 11
why_place whys.Route = 12
why_place whys.Option = 13
why_place whys.Checksum = 14
why_place whys.Kind = 15
why_place whys.Proto = 16
why_place whys.HeaderLen = 17
why_place whys.MobilityOption = 18
why_place whys.Address = 19
why_place whys.Probe = 20
why_place whys.HomeOption = 21
why_place whys.Unroutable = 22
why_place whys.Options = 23
why_place whys.Authenticator = 24
why_place whys.Role = 25
why_place whys.Icmp = 26
why_place whys.NoNext = 27
why_place whys.Unshielded = 28
why_place whys.Entry = 29
why_place whys.Nested = 30
why_place whys.Cookie = 31
why_place whys.Ack = 32
why_place whys.Error = 33
why_place whys.Refresh = 34
why_place whys.Frame = 35

-- the bindings that agents and correspondents keep
abbrev pub kept_numbers : Entry → List ℕ
kept_numbers (Home node home careof sequence end) = 33 ∷ node.0 ∷ home.0 ∷ careof.0 ∷ sequence ∷ end.0 ∷ []
kept_numbers (Row node home binding careof sequence end kept_until) = 34 ∷ node.0 ∷ home.0 ∷ binding ∷ careof.0 ∷ sequence ∷ end.0 ∷ kept_until.0 ∷ []
kept_numbers entry = []

-- the mark of its origin
abbrev pub mark_numbers : Entry → List ℕ
mark_numbers (Origin hot (Some cot) update) = 31 ∷ hot ∷ 1 ∷ cot ∷ update ∷ []
mark_numbers (Origin hot None update) = 31 ∷ hot ∷ 0 ∷ 0 ∷ update ∷ []
mark_numbers (Forged cause) = 32 ∷ cause ∷ []
mark_numbers entry = kept_numbers entry

-- an update that a correspondent accepts
abbrev pub update_numbers : Entry → List ℕ
update_numbers (Accepted node number home binding careof sequence end home_index careof_index) = 30 ∷ node.0 ∷ number ∷ home.0 ∷ binding ∷ careof.0 ∷ sequence ∷ end.0 ∷ home_index ∷ flag (is_some careof_index) ∷ unwrap_or careof_index 0 ∷ []
update_numbers entry = mark_numbers entry

-- what a mobile has with its peers
abbrev pub peer_numbers : Entry → List ℕ
peer_numbers (Made node peer number home (Some careof)) = 27 ∷ node.0 ∷ peer.0 ∷ number ∷ 1 ∷ length home.0 ∷ (home.0 ++ careof.0)
peer_numbers (Made node peer number home None) = 27 ∷ node.0 ∷ peer.0 ∷ number ∷ 0 ∷ length home.0 ∷ (home.0 ++ [])
peer_numbers (Bound node peer end) = 28 ∷ node.0 ∷ peer.0 ∷ end.0 ∷ []
peer_numbers (Unbound node peer) = 29 ∷ node.0 ∷ peer.0 ∷ []
peer_numbers entry = update_numbers entry

-- what a mobile knows of its agents
abbrev pub mobile_numbers : Entry → List ℕ
mobile_numbers (Registered node agent end) = 23 ∷ node.0 ∷ agent.0 ∷ end.0 ∷ []
mobile_numbers (Unregistered node agent) = 24 ∷ node.0 ∷ agent.0 ∷ []
mobile_numbers (Refused node status) = 25 ∷ node.0 ∷ status ∷ []
mobile_numbers (Chosen node agent) = 26 ∷ node.0 ∷ agent.0 ∷ []
mobile_numbers entry = peer_numbers entry

-- where mobiles stand, and what nodes learn there
abbrev pub place_numbers : Entry → List ℕ
place_numbers (Moved node (Some link)) = 19 ∷ node.0 ∷ 1 ∷ link.0 ∷ []
place_numbers (Moved node None) = 19 ∷ node.0 ∷ 0 ∷ 0 ∷ []
place_numbers (Advertised node link (Some agent)) = 20 ∷ node.0 ∷ link.0 ∷ 1 ∷ agent.0 ∷ []
place_numbers (Advertised node link None) = 20 ∷ node.0 ∷ link.0 ∷ 0 ∷ 0 ∷ []
place_numbers (Careof node address) = 21 ∷ node.0 ∷ address.0 ∷ []
place_numbers (Prefixes node valid preferred) = 22 ∷ node.0 ∷ valid ∷ preferred ∷ []
place_numbers entry = mobile_numbers entry

-- a run as a whole
abbrev pub run_numbers : Entry → List ℕ
run_numbers (At moment) = 15 ∷ moment.0 ∷ []
run_numbers Idle = 16 ∷ []
run_numbers (Restarted node) = 17 ∷ node.0 ∷ []
run_numbers (Settled a b is) = 18 ∷ a.0 ∷ b.0 ∷ flag is ∷ []
run_numbers entry = place_numbers entry

-- the claims of addresses
abbrev pub claim_numbers : Entry → List ℕ
claim_numbers (Claimed who link address) = 12 ∷ who ∷ link.0 ∷ address.0 ∷ []
claim_numbers (Released who link address) = 13 ∷ who ∷ link.0 ∷ address.0 ∷ []
claim_numbers (Taken who link address holder) = 14 ∷ who ∷ link.0 ∷ address.0 ∷ holder ∷ []
claim_numbers entry = run_numbers entry

-- what outsiders hear and send
abbrev pub outsider_numbers : Entry → List ℕ
outsider_numbers (Injected number outsider link packet) = 8 ∷ number ∷ outsider ∷ link.0 ∷ packet
outsider_numbers (Heard number outsider) = 9 ∷ number ∷ outsider ∷ []
outsider_numbers (Listening outsider link) = 10 ∷ outsider ∷ link.0 ∷ []
outsider_numbers (Deafened outsider link) = 11 ∷ outsider ∷ link.0 ∷ []
outsider_numbers entry = claim_numbers entry

-- what a node denied, dropped or handed up
abbrev pub fate_numbers : Entry → List ℕ
fate_numbers (Denied node number status) = 5 ∷ node.0 ∷ number ∷ status ∷ []
fate_numbers (Dropped node number why) = 6 ∷ node.0 ∷ number ∷ why_place why ∷ []
fate_numbers (Up node number source destination proto payload) = 7 ∷ node.0 ∷ number ∷ source.0 ∷ destination.0 ∷ proto ∷ payload
fate_numbers entry = outsider_numbers entry

-- packets: who sent them, who got them, and which came to nothing
abbrev pub packet_numbers : Entry → List ℕ
packet_numbers (Sent number node shielded packet) = 0 ∷ number ∷ node.0 ∷ flag shielded ∷ packet
packet_numbers (Handed number node) = 1 ∷ number ∷ node.0 ∷ []
packet_numbers (Gone number why) = 2 ∷ number ∷ why_place why ∷ []
packet_numbers (Lost number) = 3 ∷ number ∷ []
packet_numbers (Unsent node why) = 4 ∷ node.0 ∷ why_place why ∷ []
packet_numbers entry = fate_numbers entry

unfoldable pub entry_numbers : Entry → List ℕ
entry_numbers entry = packet_numbers entry
