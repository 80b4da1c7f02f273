-- The line of each entry: its word, the kinds of its values, its tail, the entry that a row of these stands for, and the
-- row of an entry. The entries of one theme stand together; those of the others are passed on.
use Rattle.std.specs.Prelude.{ℕ, List, [], ◌∷◌, codes}
use Rattle.mip_entries.specs.declared.entry.Entry.{Entry}
use Rattle.mip_entries.specs.declared.entry.Entry.TheVariants as entries
use Rattle.mip_rows.specs.Texts.{row_texts}
use Rattle.mip_rows.specs.Names.{Names}
use Rattle.mip_rows.specs.Values.{address_value, address_at, answer_at, link_at, moment_at, node_at, outsider_at, shield_at, some_address_at, some_link_at, some_token_at, some_u16_at, some_u64_at, token_at, u16_at, u32_at, u64_at, u8_at, who_at, why_at}
use Rattle.mip_rows.specs.declared.field_kind.Kind.{Kind}
use Rattle.mip_rows.specs.declared.field_kind.Kind.TheVariants as kinds
use Rattle.mip_rows.specs.declared.row.Row.{Row}
use Rattle.mip_rows.specs.declared.tail.Tail.{Tail}
use Rattle.mip_rows.specs.declared.tail.Tail.TheVariants as tails
use Rattle.mip_rows.specs.declared.value.Value.{Value}
use Rattle.mip_rows.specs.declared.value.Value.TheVariants as values
use Rattle.mip_trace.specs.declared.entry_word.EntryWord.{EntryWord}
use Rattle.mip_trace.specs.declared.entry_word.EntryWord.TheVariants as words

abbrev pub word_text : EntryWord → List ℕ
word_text words.Sent = codes "sent"
word_text words.Handed = codes "handed"
word_text words.Gone = codes "gone"
word_text words.Lost = codes "lost"
word_text words.Unsent = codes "unsent"
word_text words.Listening = codes "listening"
word_text words.Deafened = codes "deafened"
word_text words.Injected = codes "injected"
word_text words.Heard = codes "heard"
word_text words.Claimed = codes "claimed"
word_text words.Released = codes "released"
word_text words.Taken = codes "taken"
word_text words.Denied = codes "denied"
word_text words.Dropped = codes "dropped"
word_text words.Up = codes "up"
word_text words.At = codes "at"
word_text words.Idle = codes "idle"
word_text words.Restarted = codes "restarted"
word_text words.Settled = codes "settled"
word_text words.Moved = codes "moved"
word_text words.Advertised = codes "advertised"
word_text words.Careof = codes "careof"
word_text words.Prefixes = codes "prefixes"
word_text words.Registered = codes "registered"
word_text words.Unregistered = codes "unregistered"
word_text words.Refused = codes "refused"
word_text words.Chosen = codes "chosen"
word_text words.Made = codes "made"
word_text words.Bound = codes "bound"
word_text words.Unbound = codes "unbound"
word_text words.Accepted = codes "accepted"
word_text words.Origin = codes "origin"
word_text words.Forged = codes "forged"
word_text words.Home = codes "home"
word_text words.Row = codes "row"

-- every word
unfoldable pub entry_words : List EntryWord
entry_words =
    words.Sent ∷ words.Handed ∷ words.At ∷ words.Gone ∷ words.Lost ∷ words.Heard ∷ words.Moved ∷ words.Careof ∷ words.Claimed
    ∷ words.Released ∷ words.Unsent ∷ words.Listening ∷ words.Deafened ∷ words.Injected ∷ words.Taken ∷ words.Denied ∷ words.Dropped ∷ words.Up
    ∷ words.Idle ∷ words.Restarted ∷ words.Settled ∷ words.Advertised ∷ words.Prefixes ∷ words.Registered ∷ words.Unregistered ∷ words.Refused ∷ words.Chosen
    ∷ words.Made ∷ words.Bound ∷ words.Unbound ∷ words.Accepted ∷ words.Origin ∷ words.Forged ∷ words.Home ∷ words.Row ∷ []

-- the kinds of the values behind a word
abbrev pub kinds_of : EntryWord → List Kind
kinds_of words.Sent = kinds.U64 ∷ kinds.Node ∷ kinds.Shield ∷ []
kinds_of words.Handed = kinds.U64 ∷ kinds.Node ∷ []
kinds_of words.Gone = kinds.U64 ∷ kinds.Gone ∷ []
kinds_of words.Lost = kinds.U64 ∷ []
kinds_of words.Unsent = kinds.Node ∷ kinds.Unsent ∷ []
kinds_of words.Listening = kinds.Outsider ∷ kinds.Link ∷ []
kinds_of words.Deafened = kinds.Outsider ∷ kinds.Link ∷ []
kinds_of words.Injected = kinds.U64 ∷ kinds.Outsider ∷ kinds.Link ∷ []
kinds_of words.Heard = kinds.U64 ∷ kinds.Outsider ∷ []
kinds_of words.Claimed = kinds.Who ∷ kinds.Link ∷ kinds.Address ∷ []
kinds_of words.Released = kinds.Who ∷ kinds.Link ∷ kinds.Address ∷ []
kinds_of words.Taken = kinds.Who ∷ kinds.Link ∷ kinds.Address ∷ kinds.Who ∷ []
kinds_of words.Denied = kinds.Node ∷ kinds.U64 ∷ kinds.U8 ∷ []
kinds_of words.Dropped = kinds.Node ∷ kinds.U64 ∷ kinds.Dropped ∷ []
kinds_of words.Up = kinds.Node ∷ kinds.U64 ∷ kinds.Address ∷ kinds.Address ∷ kinds.U8 ∷ []
kinds_of words.At = kinds.Moment ∷ []
kinds_of words.Idle = []
kinds_of words.Restarted = kinds.Node ∷ []
kinds_of words.Settled = kinds.Node ∷ kinds.Node ∷ kinds.Answer ∷ []
kinds_of words.Moved = kinds.Node ∷ kinds.SomeLink ∷ []
kinds_of words.Advertised = kinds.Node ∷ kinds.Link ∷ kinds.SomeAddress ∷ []
kinds_of words.Careof = kinds.Node ∷ kinds.Address ∷ []
kinds_of words.Prefixes = kinds.Node ∷ kinds.U32 ∷ kinds.U32 ∷ []
kinds_of words.Registered = kinds.Node ∷ kinds.Address ∷ kinds.Moment ∷ []
kinds_of words.Unregistered = kinds.Node ∷ kinds.Address ∷ []
kinds_of words.Refused = kinds.Node ∷ kinds.U8 ∷ []
kinds_of words.Chosen = kinds.Node ∷ kinds.Address ∷ []
kinds_of words.Made = kinds.Node ∷ kinds.Address ∷ kinds.U64 ∷ kinds.Token ∷ kinds.SomeToken ∷ []
kinds_of words.Bound = kinds.Node ∷ kinds.Address ∷ kinds.Moment ∷ []
kinds_of words.Unbound = kinds.Node ∷ kinds.Address ∷ []
kinds_of words.Accepted = kinds.Node ∷ kinds.U64 ∷ kinds.Address ∷ kinds.U8 ∷ kinds.Address ∷ kinds.U16 ∷ kinds.Moment ∷ kinds.U16 ∷ kinds.SomeU16 ∷ []
kinds_of words.Origin = kinds.U64 ∷ kinds.SomeU64 ∷ kinds.U64 ∷ []
kinds_of words.Forged = kinds.Cause ∷ []
kinds_of words.Home = kinds.Node ∷ kinds.Address ∷ kinds.Address ∷ kinds.U16 ∷ kinds.Moment ∷ []
kinds_of words.Row = kinds.Node ∷ kinds.Address ∷ kinds.U8 ∷ kinds.Address ∷ kinds.U16 ∷ kinds.Moment ∷ kinds.Moment ∷ []

-- and what stands behind these
abbrev pub tail_kind : EntryWord → Tail
tail_kind words.Sent = tails.Packet
tail_kind words.Injected = tails.Packet
tail_kind words.Up = tails.Bytes
tail_kind _ = tails.Nothing

-- the bindings that agents and correspondents keep. RFC 6275 sections 9.1 and 10.1
abbrev pub kept_entry : EntryWord → Row → Entry
kept_entry words.Home r = entries.Home (node_at r.values 0) (address_at r.values 1) (address_at r.values 2) (u16_at r.values 3) (moment_at r.values 4)
kept_entry words.Row r = entries.Row (node_at r.values 0) (address_at r.values 1) (u8_at r.values 2) (address_at r.values 3) (u16_at r.values 4) (moment_at r.values 5) (moment_at r.values 6)
kept_entry _ r = entries.Idle

-- an update that a correspondent accepts. RFC 6275 section 9.5
abbrev pub update_entry : EntryWord → Row → Entry
update_entry words.Accepted r = entries.Accepted (node_at r.values 0) (u64_at r.values 1) (address_at r.values 2) (u8_at r.values 3) (address_at r.values 4) (u16_at r.values 5) (moment_at r.values 6) (u16_at r.values 7) (some_u16_at r.values 8)
update_entry words.Origin r = entries.Origin (u64_at r.values 0) (some_u64_at r.values 1) (u64_at r.values 2)
update_entry words.Forged r = entries.Forged (u8_at r.values 0)
update_entry word r = kept_entry word r

-- what a mobile has with its peers. RFC 6275 sections 11.6 and 11.7.2
abbrev pub peer_entry : EntryWord → Row → Entry
peer_entry words.Made r = entries.Made (node_at r.values 0) (address_at r.values 1) (u64_at r.values 2) (token_at r.values 3) (some_token_at r.values 4)
peer_entry words.Bound r = entries.Bound (node_at r.values 0) (address_at r.values 1) (moment_at r.values 2)
peer_entry words.Unbound r = entries.Unbound (node_at r.values 0) (address_at r.values 1)
peer_entry word r = update_entry word r

-- what a mobile knows of its agents. RFC 6275 section 11.7.1
abbrev pub mobile_entry : EntryWord → Row → Entry
mobile_entry words.Registered r = entries.Registered (node_at r.values 0) (address_at r.values 1) (moment_at r.values 2)
mobile_entry words.Unregistered r = entries.Unregistered (node_at r.values 0) (address_at r.values 1)
mobile_entry words.Refused r = entries.Refused (node_at r.values 0) (u8_at r.values 1)
mobile_entry words.Chosen r = entries.Chosen (node_at r.values 0) (address_at r.values 1)
mobile_entry word r = peer_entry word r

-- where mobiles stand, and what nodes learn there
abbrev pub place_entry : EntryWord → Row → Entry
place_entry words.Moved r = entries.Moved (node_at r.values 0) (some_link_at r.values 1)
place_entry words.Advertised r = entries.Advertised (node_at r.values 0) (link_at r.values 1) (some_address_at r.values 2)
place_entry words.Careof r = entries.Careof (node_at r.values 0) (address_at r.values 1)
place_entry words.Prefixes r = entries.Prefixes (node_at r.values 0) (u32_at r.values 1) (u32_at r.values 2)
place_entry word r = mobile_entry word r

-- a run as a whole: time, events without effect, restarts, and which nodes can exchange data
abbrev pub run_entry : EntryWord → Row → Entry
run_entry words.At r = entries.At (moment_at r.values 0)
run_entry words.Idle r = entries.Idle
run_entry words.Restarted r = entries.Restarted (node_at r.values 0)
run_entry words.Settled r = entries.Settled (node_at r.values 0) (node_at r.values 1) (answer_at r.values 2)
run_entry word r = place_entry word r

-- what a node denied, dropped or handed up
abbrev pub fate_entry : EntryWord → Row → Entry
fate_entry words.Denied r = entries.Denied (node_at r.values 0) (u64_at r.values 1) (u8_at r.values 2)
fate_entry words.Dropped r = entries.Dropped (node_at r.values 0) (u64_at r.values 1) (why_at r.values 2)
fate_entry words.Up r = entries.Up (node_at r.values 0) (u64_at r.values 1) (address_at r.values 2) (address_at r.values 3) (u8_at r.values 4) r.bytes
fate_entry word r = run_entry word r

-- the claims of addresses
abbrev pub claim_entry : EntryWord → Row → Entry
claim_entry words.Claimed r = entries.Claimed (who_at r.values 0) (link_at r.values 1) (address_at r.values 2)
claim_entry words.Released r = entries.Released (who_at r.values 0) (link_at r.values 1) (address_at r.values 2)
claim_entry words.Taken r = entries.Taken (who_at r.values 0) (link_at r.values 1) (address_at r.values 2) (who_at r.values 3)
claim_entry word r = fate_entry word r

-- what outsiders hear and send
abbrev pub outsider_entry : EntryWord → Row → Entry
outsider_entry words.Listening r = entries.Listening (outsider_at r.values 0) (link_at r.values 1)
outsider_entry words.Deafened r = entries.Deafened (outsider_at r.values 0) (link_at r.values 1)
outsider_entry words.Injected r = entries.Injected (u64_at r.values 0) (outsider_at r.values 1) (link_at r.values 2) r.bytes
outsider_entry words.Heard r = entries.Heard (u64_at r.values 0) (outsider_at r.values 1)
outsider_entry word r = claim_entry word r

-- packets: who sent them, who got them, and which came to nothing
abbrev pub packet_entry : EntryWord → Row → Entry
packet_entry words.Sent r = entries.Sent (u64_at r.values 0) (node_at r.values 1) (shield_at r.values 2) r.bytes
packet_entry words.Handed r = entries.Handed (u64_at r.values 0) (node_at r.values 1)
packet_entry words.Gone r = entries.Gone (u64_at r.values 0) (why_at r.values 1)
packet_entry words.Lost r = entries.Lost (u64_at r.values 0)
packet_entry words.Unsent r = entries.Unsent (node_at r.values 0) (why_at r.values 1)
packet_entry word r = outsider_entry word r

-- the entry that a row behind a word stands for
abbrev pub entry_at : EntryWord → Row → Entry
entry_at word r = packet_entry word r

-- a line: a word, values and the bytes of its tail
pub record Line : Type 0 where
  pub word : EntryWord
  pub values : List Value
  pub bytes : List ℕ

-- a line without a tail
abbrev pub line : EntryWord → List Value → Line
line w vs = record { word = w; values = vs; bytes = [] }

-- a line with these bytes as its tail
abbrev pub tailed : EntryWord → List Value → List ℕ → Line
tailed w vs b = record { word = w; values = vs; bytes = b }

-- the bindings that agents and correspondents keep. RFC 6275 sections 9.1 and 10.1
abbrev pub kept_line : Entry → Line
kept_line (entries.Home a b c d e) = line words.Home (values.Node a ∷ values.Address b ∷ values.Address c ∷ values.U16 d ∷ values.Moment e ∷ [])
kept_line (entries.Row a b c d e f g) = line words.Row (values.Node a ∷ values.Address b ∷ values.U8 c ∷ values.Address d ∷ values.U16 e ∷ values.Moment f ∷ values.Moment g ∷ [])
kept_line _ = line words.Idle []

-- an update that a correspondent accepts. RFC 6275 section 9.5
abbrev pub update_line : Entry → Line
update_line (entries.Accepted a b c d e f g h i) = line words.Accepted (values.Node a ∷ values.U64 b ∷ values.Address c ∷ values.U8 d ∷ values.Address e ∷ values.U16 f ∷ values.Moment g ∷ values.U16 h ∷ values.SomeU16 i ∷ [])
update_line (entries.Origin a b c) = line words.Origin (values.U64 a ∷ values.SomeU64 b ∷ values.U64 c ∷ [])
update_line (entries.Forged a) = line words.Forged (values.U8 a ∷ [])
update_line other = kept_line other

-- what a mobile has with its peers. RFC 6275 sections 11.6 and 11.7.2
abbrev pub peer_line : Entry → Line
peer_line (entries.Made a b c d e) = line words.Made (values.Node a ∷ values.Address b ∷ values.U64 c ∷ values.Token d ∷ values.SomeToken e ∷ [])
peer_line (entries.Bound a b c) = line words.Bound (values.Node a ∷ values.Address b ∷ values.Moment c ∷ [])
peer_line (entries.Unbound a b) = line words.Unbound (values.Node a ∷ values.Address b ∷ [])
peer_line other = update_line other

-- what a mobile knows of its agents. RFC 6275 section 11.7.1
abbrev pub mobile_line : Entry → Line
mobile_line (entries.Registered a b c) = line words.Registered (values.Node a ∷ values.Address b ∷ values.Moment c ∷ [])
mobile_line (entries.Unregistered a b) = line words.Unregistered (values.Node a ∷ values.Address b ∷ [])
mobile_line (entries.Refused a b) = line words.Refused (values.Node a ∷ values.U8 b ∷ [])
mobile_line (entries.Chosen a b) = line words.Chosen (values.Node a ∷ values.Address b ∷ [])
mobile_line other = peer_line other

-- where mobiles stand, and what nodes learn there
abbrev pub place_line : Entry → Line
place_line (entries.Moved a b) = line words.Moved (values.Node a ∷ values.SomeLink b ∷ [])
place_line (entries.Advertised a b c) = line words.Advertised (values.Node a ∷ values.Link b ∷ address_value c ∷ [])
place_line (entries.Careof a b) = line words.Careof (values.Node a ∷ values.Address b ∷ [])
place_line (entries.Prefixes a b c) = line words.Prefixes (values.Node a ∷ values.U32 b ∷ values.U32 c ∷ [])
place_line other = mobile_line other

-- a run as a whole: time, events without effect, restarts, and which nodes can exchange data
abbrev pub run_line : Entry → Line
run_line (entries.At a) = line words.At (values.Moment a ∷ [])
run_line entries.Idle = line words.Idle []
run_line (entries.Restarted a) = line words.Restarted (values.Node a ∷ [])
run_line (entries.Settled a b c) = line words.Settled (values.Node a ∷ values.Node b ∷ values.Answer c ∷ [])
run_line other = place_line other

-- what a node denied, dropped or handed up
abbrev pub fate_line : Entry → Line
fate_line (entries.Denied a b c) = line words.Denied (values.Node a ∷ values.U64 b ∷ values.U8 c ∷ [])
fate_line (entries.Dropped a b c) = line words.Dropped (values.Node a ∷ values.U64 b ∷ values.Why c ∷ [])
fate_line (entries.Up a b c d e f) = tailed words.Up (values.Node a ∷ values.U64 b ∷ values.Address c ∷ values.Address d ∷ values.U8 e ∷ []) f
fate_line other = run_line other

-- the claims of addresses
abbrev pub claim_line : Entry → Line
claim_line (entries.Claimed a b c) = line words.Claimed (values.Who a ∷ values.Link b ∷ values.Address c ∷ [])
claim_line (entries.Released a b c) = line words.Released (values.Who a ∷ values.Link b ∷ values.Address c ∷ [])
claim_line (entries.Taken a b c d) = line words.Taken (values.Who a ∷ values.Link b ∷ values.Address c ∷ values.Who d ∷ [])
claim_line other = fate_line other

-- what outsiders hear and send
abbrev pub outsider_line : Entry → Line
outsider_line (entries.Listening a b) = line words.Listening (values.Outsider a ∷ values.Link b ∷ [])
outsider_line (entries.Deafened a b) = line words.Deafened (values.Outsider a ∷ values.Link b ∷ [])
outsider_line (entries.Injected a b c d) = tailed words.Injected (values.U64 a ∷ values.Outsider b ∷ values.Link c ∷ []) d
outsider_line (entries.Heard a b) = line words.Heard (values.U64 a ∷ values.Outsider b ∷ [])
outsider_line other = claim_line other

-- packets: who sent them, who got them, and which came to nothing
abbrev pub packet_line : Entry → Line
packet_line (entries.Sent a b c d) = tailed words.Sent (values.U64 a ∷ values.Node b ∷ values.Shield c ∷ []) d
packet_line (entries.Handed a b) = line words.Handed (values.U64 a ∷ values.Node b ∷ [])
packet_line (entries.Gone a b) = line words.Gone (values.U64 a ∷ values.Why b ∷ [])
packet_line (entries.Lost a) = line words.Lost (values.U64 a ∷ [])
packet_line (entries.Unsent a b) = line words.Unsent (values.Node a ∷ values.Why b ∷ [])
packet_line other = outsider_line other

-- the line of an entry
abbrev pub line_of : Entry → Line
line_of entry = packet_line entry

-- the fields of a line, whose first is its word
abbrev pub line_fields : Names → Line → List (List ℕ)
line_fields names l = word_text l.word ∷ row_texts names l.values (tail_kind l.word) l.bytes
