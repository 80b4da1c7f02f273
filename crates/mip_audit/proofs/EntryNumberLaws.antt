-- An entry is its numbers: it is read back from them.
use Rattle.std.proofs.Common.{◌≡◌, ℕ, Bool, true, false, List, [], ◌∷◌, ◌++◌, length, take, drop, refl, sym, ap, ◌∙◌}
use Rattle.std.specs.Prelude.{Option, Some, None, get_or, ◌==◌, if◌then◌else◌}
use Rattle.std.proofs.Math.Seq.{take-append_seam, drop-append_seam}
use Rattle.mip_words.specs.declared.why.Why.{Why}
use Rattle.mip_words.specs.declared.why.Why.TheVariants as whys
use Rattle.mip_words.specs.declared.token.Token.{Token}
use Rattle.mip_entries.specs.declared.entry.Entry.{Entry}
use Rattle.mip_entries.specs.declared.entry.Entry.TheVariants.{Sent, Handed, Gone, Lost, Unsent, Denied, Dropped, Up, Injected, Heard, Listening, Deafened, Claimed, Released, Taken, At, Idle, Restarted, Settled, Moved, Advertised, Careof, Prefixes, Registered, Unregistered, Refused, Chosen, Made, Bound, Unbound, Accepted, Origin, Forged, Home, Row}
use Rattle.mip_audit.specs.EntryNumbers.{flag, why_place, entry_numbers}

abbrev all_whys : List Why
all_whys = whys.NoLink ∷ whys.Hop ∷ whys.NoHolder ∷ whys.Shield ∷ whys.Detached ∷ whys.Unregistered ∷ whys.NoRoute ∷ whys.Size ∷ whys.Short ∷ whys.Version ∷ whys.Length ∷ whys.Header ∷ whys.Route ∷ whys.Option ∷ whys.Checksum ∷ whys.Kind ∷ whys.Proto ∷ whys.HeaderLen ∷ whys.MobilityOption ∷ whys.Address ∷ whys.Probe ∷ whys.HomeOption ∷ whys.Unroutable ∷ whys.Options ∷ whys.Authenticator ∷ whys.Role ∷ whys.Icmp ∷ whys.NoNext ∷ whys.Unshielded ∷ whys.Entry ∷ whys.Nested ∷ whys.Cookie ∷ whys.Ack ∷ whys.Error ∷ whys.Refresh ∷ whys.Frame ∷ []

abbrev why_at : ℕ → Why
why_at place = get_or all_whys place whys.NoLink

why_again : (why : Why) → why_at (why_place why) ≡ why
why_again whys.NoLink = refl
why_again whys.Hop = refl
why_again whys.NoHolder = refl
why_again whys.Shield = refl
why_again whys.Detached = refl
why_again whys.Unregistered = refl
why_again whys.NoRoute = refl
why_again whys.Size = refl
why_again whys.Short = refl
why_again whys.Version = refl
why_again whys.Length = refl
why_again whys.Header = refl
why_again whys.Route = refl
why_again whys.Option = refl
why_again whys.Checksum = refl
why_again whys.Kind = refl
why_again whys.Proto = refl
why_again whys.HeaderLen = refl
why_again whys.MobilityOption = refl
why_again whys.Address = refl
why_again whys.Probe = refl
why_again whys.HomeOption = refl
why_again whys.Unroutable = refl
why_again whys.Options = refl
why_again whys.Authenticator = refl
why_again whys.Role = refl
why_again whys.Icmp = refl
why_again whys.NoNext = refl
why_again whys.Unshielded = refl
why_again whys.Entry = refl
why_again whys.Nested = refl
why_again whys.Cookie = refl
why_again whys.Ack = refl
why_again whys.Error = refl
why_again whys.Refresh = refl
why_again whys.Frame = refl

abbrev is_one : ℕ → Bool
is_one n = n == 1

flag_again : (b : Bool) → is_one (flag b) ≡ b
flag_again true = refl
flag_again false = refl

abbrev token : List ℕ → Token
token bytes = record { 0 = bytes }

abbrev at : List ℕ → ℕ → ℕ
at fields place = get_or fields place 0

abbrev optional : {X : Type 0} → ℕ → X → Option X
optional has value = if is_one has then Some value else None

-- behind its kind an entry of each kind has these fields
abbrev read : List ℕ → List Entry
read fields =
    Sent (at fields 0) (record { 0 = at fields 1 }) (is_one (at fields 2)) (drop 3 fields)
    ∷ Handed (at fields 0) (record { 0 = at fields 1 })
    ∷ Gone (at fields 0) (why_at (at fields 1))
    ∷ Lost (at fields 0)
    ∷ Unsent (record { 0 = at fields 0 }) (why_at (at fields 1))
    ∷ Denied (record { 0 = at fields 0 }) (at fields 1) (at fields 2)
    ∷ Dropped (record { 0 = at fields 0 }) (at fields 1) (why_at (at fields 2))
    ∷ Up (record { 0 = at fields 0 }) (at fields 1) (record { 0 = at fields 2 }) (record { 0 = at fields 3 }) (at fields 4) (drop 5 fields)
    ∷ Injected (at fields 0) (at fields 1) (record { 0 = at fields 2 }) (drop 3 fields)
    ∷ Heard (at fields 0) (at fields 1)
    ∷ Listening (at fields 0) (record { 0 = at fields 1 })
    ∷ Deafened (at fields 0) (record { 0 = at fields 1 })
    ∷ Claimed (at fields 0) (record { 0 = at fields 1 }) (record { 0 = at fields 2 })
    ∷ Released (at fields 0) (record { 0 = at fields 1 }) (record { 0 = at fields 2 })
    ∷ Taken (at fields 0) (record { 0 = at fields 1 }) (record { 0 = at fields 2 }) (at fields 3)
    ∷ At (record { 0 = at fields 0 })
    ∷ Idle
    ∷ Restarted (record { 0 = at fields 0 })
    ∷ Settled (record { 0 = at fields 0 }) (record { 0 = at fields 1 }) (is_one (at fields 2))
    ∷ Moved (record { 0 = at fields 0 }) (optional (at fields 1) (record { 0 = at fields 2 }))
    ∷ Advertised (record { 0 = at fields 0 }) (record { 0 = at fields 1 }) (optional (at fields 2) (record { 0 = at fields 3 }))
    ∷ Careof (record { 0 = at fields 0 }) (record { 0 = at fields 1 })
    ∷ Prefixes (record { 0 = at fields 0 }) (at fields 1) (at fields 2)
    ∷ Registered (record { 0 = at fields 0 }) (record { 0 = at fields 1 }) (record { 0 = at fields 2 })
    ∷ Unregistered (record { 0 = at fields 0 }) (record { 0 = at fields 1 })
    ∷ Refused (record { 0 = at fields 0 }) (at fields 1)
    ∷ Chosen (record { 0 = at fields 0 }) (record { 0 = at fields 1 })
    ∷ Made (record { 0 = at fields 0 }) (record { 0 = at fields 1 }) (at fields 2) (token (take (at fields 4) (drop 5 fields))) (optional (at fields 3) (token (drop (at fields 4) (drop 5 fields))))
    ∷ Bound (record { 0 = at fields 0 }) (record { 0 = at fields 1 }) (record { 0 = at fields 2 })
    ∷ Unbound (record { 0 = at fields 0 }) (record { 0 = at fields 1 })
    ∷ Accepted (record { 0 = at fields 0 }) (at fields 1) (record { 0 = at fields 2 }) (at fields 3) (record { 0 = at fields 4 }) (at fields 5) (record { 0 = at fields 6 }) (at fields 7) (optional (at fields 8) (at fields 9))
    ∷ Origin (at fields 0) (optional (at fields 1) (at fields 2)) (at fields 3)
    ∷ Forged (at fields 0)
    ∷ Home (record { 0 = at fields 0 }) (record { 0 = at fields 1 }) (record { 0 = at fields 2 }) (at fields 3) (record { 0 = at fields 4 })
    ∷ Row (record { 0 = at fields 0 }) (record { 0 = at fields 1 }) (at fields 2) (record { 0 = at fields 3 }) (at fields 4) (record { 0 = at fields 5 }) (record { 0 = at fields 6 })
    ∷ []

abbrev entry_of : List ℕ → Entry
entry_of [] = Idle
entry_of (kind ∷ fields) = get_or (read fields) kind Idle

again : (e : Entry) → entry_of (entry_numbers e) ≡ e
unfolding entry_numbers
again (Sent number node shielded packet) = ap (λ (x : Bool). Sent number node x packet) (flag_again shielded)
again (Handed number node) = refl
again (Gone number why) = ap (λ (x : Why). Gone number x) (why_again why)
again (Lost number) = refl
again (Unsent node why) = ap (λ (x : Why). Unsent node x) (why_again why)
again (Denied node number status) = refl
again (Dropped node number why) = ap (λ (x : Why). Dropped node number x) (why_again why)
again (Up node number source destination proto payload) = refl
again (Injected number outsider link packet) = refl
again (Heard number outsider) = refl
again (Listening outsider link) = refl
again (Deafened outsider link) = refl
again (Claimed who link address) = refl
again (Released who link address) = refl
again (Taken who link address holder) = refl
again (At moment) = refl
again Idle = refl
again (Restarted node) = refl
again (Settled a b is) = ap (λ (x : Bool). Settled a b x) (flag_again is)
again (Moved node (Some link)) = refl
again (Moved node None) = refl
again (Advertised node link (Some agent)) = refl
again (Advertised node link None) = refl
again (Careof node address) = refl
again (Prefixes node valid preferred) = refl
again (Registered node agent end) = refl
again (Unregistered node agent) = refl
again (Refused node status) = refl
again (Chosen node agent) = refl
again (Made node peer number home (Some careof)) =
    ap (λ (b : List ℕ). Made node peer number (token b) (Some (token (drop (length home.0) (home.0 ++ careof.0))))) (take-append_seam home.0 careof.0)
    ∙ ap (λ (b : List ℕ). Made node peer number home (Some (token b))) (drop-append_seam home.0 careof.0)
again (Made node peer number home None) = ap (λ (b : List ℕ). Made node peer number (token b) None) (take-append_seam home.0 [])
again (Bound node peer end) = refl
again (Unbound node peer) = refl
again (Accepted node number home binding careof sequence end home_index (Some careof_index)) = refl
again (Accepted node number home binding careof sequence end home_index None) = refl
again (Origin hot (Some cot) update) = refl
again (Origin hot None update) = refl
again (Forged cause) = refl
again (Home node home careof sequence end) = refl
again (Row node home binding careof sequence end kept_until) = refl

pub same_entry : (a b : Entry) → entry_numbers a ≡ entry_numbers b → a ≡ b
same_entry a b same = sym (again a) ∙ ap entry_of same ∙ again b
