-- What outsiders do: they post packets, listen, and take addresses.
use Rattle.std.specs.Prelude.{ℕ, List, length, Bool, true, false, ◌==◌, if◌then◌else◌, Option, Some, None, option_and_then, slice_get}
use Rattle.mip_words.specs.Protocols.{mobility_header}
use Rattle.mip_words.specs.Addresses.{address_at}
use Rattle.mip_words.specs.declared.address.Address.{Address}
use Rattle.mip_ipv6.specs.declared.head.Head.{Head}
use Rattle.mip_mobhdr.specs.Said.{Said}
use Rattle.mip_mobhdr.specs.Said.Said.{HomeInit, CareofInit, Update}
use Rattle.mip_tokens.specs.Token.{kbm_both_of, kbm_home_of}
use Rattle.mip_reception.specs.Says.{Carried, innermost, message_in, carried as says}
use Rattle.mip_reception.specs.Says.Carried.{Test}
use Rattle.mip_reception.specs.Packets.{node_head}
use Rattle.mip_reception.specs.Messages.{home_init_packet, careof_init_packet, home_test_packet, careof_test_packet}
use Rattle.mip_reception.specs.Authenticated.{authenticated_packet}
use Rattle.mip_entries.specs.declared.entry.Entry.TheVariants.{Injected, Listening, Deafened, Idle}
use Rattle.mip_links.specs.Table.{Post, holder_outside}
use Rattle.mip_rules_mobile.specs.Sendings.{number_option}
use Rattle.mip_history.specs.Setup.{Setup}
use Rattle.mip_history.specs.Runs.{Run, note}
use Rattle.mip_history.specs.Questions.{hears_in}
use Rattle.mip_history.specs.Claims.{link_id, claims}
use Rattle.mip_history.specs.Homes.{gives_up}
use Rattle.mip_history.specs.Posting.{posted}

-- an outsider posts a packet on a link
abbrev pub injected : Setup → Run → ℕ → ℕ → List ℕ → Run
injected s run o link packet =
    posted s (record { from = link; shield = None; packet = packet }) (Some o) (Injected (length run.posts) o (link_id link) packet) run

-- nothing where there is no packet to post
abbrev pub injected_if : Setup → Run → ℕ → ℕ → Option (List ℕ) → Run
injected_if s run o link None = note Idle run
injected_if s run o link (Some packet) = injected s run o link packet

-- the init of a test. RFC 6275 sections 6.1.3 and 6.1.4
abbrev pub probe_packet : Bool → Address → Address → ℕ → List ℕ
probe_packet careof source peer cookie = if careof then careof_init_packet source peer cookie else home_init_packet source peer cookie

-- what a packet says of a test: its index and its token
pub record Told : Type 0 where
  pub index : ℕ
  pub token : List ℕ

-- kind 0 is a Home Test, kind 1 a Care-of Test
abbrev pub told_by : ℕ → Carried → Option Told
told_by kind (Test k index token destination) = if k == kind then Some (record { index = index; token = token }) else None
told_by kind _ = None

-- the test in a packet that was posted, through any depth of tunnels
abbrev pub test_in : ℕ → List Post → ℕ → Option Told
test_in kind posts k = option_and_then (λ p. told_by kind (says p.packet)) (slice_get posts k)

-- the care-of test that an update names; one that ends a binding names none
abbrev pub careof_told : List Post → Option ℕ → Option (Option Told)
careof_told posts None = Some None
careof_told posts (Some k) = option_and_then (λ t. Some (Some t)) (test_in 1 posts k)

-- what `bind` says: the update's addresses, its sequence, its lifetime in units of 4 s, and the number of the binding that it
-- asks for
pub record Binding : Type 0 where
  pub source : Address
  pub peer : Address
  pub home : Address
  pub careof : Address
  pub sequence : ℕ
  pub lifetime : ℕ
  pub number : ℕ

abbrev pub unless_same : Address → Address → Option Address
unless_same address source = if address.0 == source.0 then None else Some address

-- a Home Address option where the home address is not the source
abbrev pub bind_head : Binding → Head
bind_head b = node_head b.source b.peer None (unless_same b.home b.source) mobility_header

-- an Alternate Care-of Address where the care-of address is not the source, and a Binding Number where it is not 0; flag A is
-- set. RFC 6275 section 6.1.7
abbrev pub bind_message : Binding → (home careof : ℕ) → Said
bind_message b i j = Update b.sequence true false false false b.lifetime (record {
  advice = None;
  alternate = unless_same b.careof b.source;
  nonces = Some (record { home = i; careof = j });
  number = number_option b.number;
  authorization = None;
})

-- an update with the tokens that were told. One that ends a binding has the care-of index 0, and the home address
-- stands for the care-of address
abbrev pub bind_packet : Binding → Told → Option Told → List ℕ
bind_packet b h None = authenticated_packet (bind_head b) (kbm_home_of h.token) b.home b.peer (bind_message b h.index 0)
bind_packet b h (Some c) = authenticated_packet (bind_head b) (kbm_both_of h.token c.token) b.careof b.peer (bind_message b h.index c.index)

abbrev pub bind_with : Binding → Option Told → Option (Option Told) → Option (List ℕ)
bind_with b None c = None
bind_with b (Some h) None = None
bind_with b (Some h) (Some c) = Some (bind_packet b h c)

-- the update from the tests in two packets, nothing where one of them is not there
unfoldable pub update_packet : Binding → List Post → ℕ → Option ℕ → Option (List ℕ)
update_packet b posts kh kc = bind_with b (test_in 0 posts kh) (careof_told posts kc)

-- what a packet asks for: a home test (kind 0) or a care-of test (kind 1), with a cookie
pub record Asking : Type 0 where
  pub kind : ℕ
  pub cookie : ℕ

abbrev pub asking_said : Option Said → Option Asking
asking_said (Some (HomeInit cookie options)) = Some (record { kind = 0; cookie = cookie })
asking_said (Some (CareofInit cookie options)) = Some (record { kind = 1; cookie = cookie })
asking_said _ = None

-- the init in a packet, through any depth of tunnels
unfoldable pub asking_in : List ℕ → Option Asking
asking_in packet = option_and_then (λ p. asking_said (message_in p)) (innermost packet)

-- the test with this token, from one address to another
abbrev pub told_packet : Address → Address → Asking → Told → List ℕ
told_packet source destination a t =
    if a.kind == 0 then home_test_packet source destination t.index a.cookie t.token
    else careof_test_packet source destination t.index a.cookie t.token

abbrev pub tell_with : List ℕ → Asking → Option Told → Option (List ℕ)
tell_with probe a None = None
tell_with probe a (Some t) = Some (told_packet (address_at 24 probe) (address_at 8 probe) a t)

abbrev pub tell_of : List Post → ℕ → List ℕ → Option Asking → Option (List ℕ)
tell_of posts kt probe None = None
tell_of posts kt probe (Some a) = tell_with probe a (test_in a.kind posts kt)

abbrev pub tell_for : List Post → ℕ → Option Post → Option (List ℕ)
tell_for posts kt None = None
tell_for posts kt (Some post) = tell_of posts kt post.packet (asking_in post.packet)

-- the test with the token of one packet that answers the init in another, from where that went to where it came from
unfoldable pub test_packet : List Post → ℕ → ℕ → Option (List ℕ)
test_packet posts kt kp = tell_for posts kt (slice_get posts kp)

-- an outsider begins to listen on a link, and ends it
abbrev pub listens : Run → ℕ → ℕ → Run
listens run o link = note (if hears_in run.past o link then Idle else Listening o (link_id link)) run

abbrev pub deafens : Run → ℕ → ℕ → Run
deafens run o link = note (if hears_in run.past o link then Deafened o (link_id link) else Idle) run

-- an outsider takes an address, if nobody else has it, and gives it up
abbrev pub squats : Setup → Run → ℕ → Address → Run
squats s run o address = claims s (holder_outside o) address run

abbrev pub yields : Setup → Run → ℕ → Address → Run
yields s run o address = gives_up s (holder_outside o) address run
