-- Why a packet or a sending came to nothing: the words, and which of them may stand in which line.
use Rattle.std.specs.Prelude.{◌≡◌, ◌⊎◌, ℕ, List, [], ◌∷◌, Option, codes}
use Rattle.std.specs.List.{find}
use Rattle.std.specs.Str.{bytes_eq}
use Rattle.mip_words.specs.declared.why.Why.{Why}
use Rattle.mip_words.specs.declared.why.Why.TheVariants as whys
use Rattle.mip_ipv6.specs.declared.not_packet.NotPacket.TheVariants as refusals
use Rattle.mip_mobhdr.specs.declared.fault.Fault.TheVariants as faults
use Rattle.mip_explain.specs.Words.{refusal_word, fault_word}

-- a packet or message that is not read has the word of its listing
unfoldable pub why_word : Why → List ℕ
why_word whys.NoLink = codes "nolink"
why_word whys.Hop = codes "hop"
why_word whys.NoHolder = codes "noholder"
why_word whys.Shield = codes "shield"
why_word whys.Detached = codes "detached"
why_word whys.Unregistered = codes "unregistered"
why_word whys.NoRoute = codes "noroute"
why_word whys.Size = fault_word faults.Size
why_word whys.Short = refusal_word refusals.Short
why_word whys.Version = refusal_word refusals.Version
why_word whys.Length = refusal_word refusals.Length
why_word whys.Header = refusal_word (refusals.Header 0)
why_word whys.Route = refusal_word refusals.Route
why_word whys.Option = refusal_word (refusals.Option 0)
why_word whys.Checksum = fault_word faults.Checksum
why_word whys.Kind = fault_word (faults.Unknown 0)
why_word whys.Proto = fault_word faults.Proto
why_word whys.HeaderLen = fault_word faults.HeaderLen
why_word whys.MobilityOption = fault_word (faults.Option 0)
why_word whys.Address = codes "address"
why_word whys.Probe = codes "probe"
why_word whys.HomeOption = codes "homeoption"
why_word whys.Unroutable = codes "unroutable"
why_word whys.Options = codes "options"
why_word whys.Authenticator = codes "authenticator"
why_word whys.Role = codes "role"
why_word whys.Icmp = codes "icmp"
why_word whys.NoNext = codes "none"
why_word whys.Unshielded = codes "unshielded"
why_word whys.Entry = codes "entry"
why_word whys.Nested = codes "nested"
why_word whys.Cookie = codes "cookie"
why_word whys.Ack = codes "ack"
why_word whys.Error = codes "error"
why_word whys.Refresh = codes "refresh"
why_word whys.Frame = codes "frame"

-- why a packet reached nobody
unfoldable pub gone_whys : List Why
gone_whys = whys.NoLink ∷ whys.Hop ∷ whys.NoHolder ∷ whys.Shield ∷ []

-- why a node could not send
unfoldable pub unsent_whys : List Why
unsent_whys = whys.Detached ∷ whys.Unregistered ∷ whys.NoRoute ∷ whys.Size ∷ []

-- why a node did nothing with a packet
unfoldable pub dropped_whys : List Why
dropped_whys =
    whys.Short ∷ whys.Version ∷ whys.Length ∷ whys.Header ∷ whys.Route ∷ whys.Option ∷ whys.Size ∷ whys.Checksum ∷ whys.Kind ∷ whys.Proto
    ∷ whys.HeaderLen ∷ whys.MobilityOption ∷ whys.Address ∷ whys.Probe ∷ whys.HomeOption ∷ whys.Unroutable ∷ whys.Options ∷ whys.Authenticator
    ∷ whys.Role ∷ whys.Icmp ∷ whys.NoNext ∷ whys.Unshielded ∷ whys.Entry ∷ whys.Nested ∷ whys.Hop ∷ whys.Cookie ∷ whys.Ack ∷ whys.Error ∷ whys.Refresh
    ∷ whys.Frame ∷ []

-- one of these
abbrev pub IsAmong : List Why → Why → Type 0
IsAmong [] why = ⊥
IsAmong (first ∷ more) why = (why ≡ first) ⊎ IsAmong more why

-- the one of these that has this word
abbrev pub why_among : List Why → List ℕ → Option Why
why_among some field = find (λ why. bytes_eq (why_word why) field) some
