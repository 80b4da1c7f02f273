-- Laws and invariants of OwnHistories: only proofs stand on them.
use Rattle.std.specs.Prelude.{◌≡◌, ℕ, List, ◌∷◌, ◌++◌, length, Bool, true, false, Option, Some, None, IfSome, option_map, slice_get}
use Rattle.std.specs.List.{AllByRecursion}
use Rattle.mip_words.specs.declared.token.Token.{Token}
use Rattle.mip_ipv6.specs.Packet.{names_no_body}
use Rattle.mip_packets.specs.Says.{carried}
use Rattle.mip_entries.specs.declared.entry.Entry.{Entry}
use Rattle.mip_entries.specs.declared.entry.Entry.TheVariants as entries
use Rattle.mip_entries.specs.Completed.{node_id}
use Rattle.mip_schedule.specs.Contents.{Content}
use Rattle.mip_schedule.specs.declared.event.Event.{Event}
use Rattle.mip_schedule.specs.declared.event.Event.TheVariants.{Payload}
use Rattle.mip_provenance.specs.Sights.{token_in}
use Rattle.mip_history.specs.Setup.{Setup, Host, Kind}
use Rattle.mip_history.specs.Setup.Kind.{Correspondent, Agent, Mobile}
use Rattle.mip_history.specs.Questions.{moment_in}
use Rattle.mip_history.specs.BoundLaws.{packets_of}
use Rattle.mip_law_origin.specs.OwnTests.{IsOwnTest}
use Rattle.mip_law_origin.specs.OwnHistories.{life_of}

-- what a node is, where it is one
abbrev pub kind_at : Setup → ℕ → Option Kind
kind_at s n = option_map (λ (h : Host). h.kind) (slice_get s.hosts n)

abbrev pub is_agent_kind : Option Kind → Bool
is_agent_kind (Some (Agent preference life room serves)) = true
is_agent_kind _ = false

-- among these entries a node was handed a packet which is a test with this token
pub record HasCome (front : List Entry) (node : ℕ) (token : List ℕ) : Type 0 where
  pub number : ℕ
  pub bytes : List ℕ
  pub before : List Entry
  pub after : List Entry
  pub whole : front ≡ before ++ entries.Handed number (node_id node) ∷ after
  pub posted : slice_get (packets_of front) number ≡ Some bytes
  pub says : token_in (carried bytes) ≡ Some token

-- a test that a correspondent or a mobile sends is its own, by its life and the moment; one that an agent sends was handed to it
abbrev pub IsRightFrom : Setup → List Entry → ℕ → List ℕ → Option Kind → Type 0
IsRightFrom s front n packet (Some (Correspondent room)) = IsOwnTest (life_of s front n) (moment_in s.start front) (carried packet)
IsRightFrom s front n packet (Some (Agent preference life room serves)) = IfSome (token_in (carried packet)) (HasCome front n)
IsRightFrom s front n packet (Some (Mobile agent)) = IsOwnTest (life_of s front n) (moment_in s.start front) (carried packet)
IsRightFrom s front n packet None = Unit {0}

-- a mobile makes the update of the packet that it posts next from tests that were handed to it
pub record IsMadeOfCome (front : List Entry) (node number : ℕ) (home : Token) (careof : Option Token) : Type 0 where
  pub next : number ≡ length (packets_of front)
  pub home_came : HasCome front node home.0
  pub careof_came : IfSome careof (λ t. HasCome front node t.0)

-- so does each entry of a node; only agents register homes
abbrev pub IsOwnEntry : Setup → List Entry → Entry → Type 0
IsOwnEntry s front (entries.Sent number node shielded packet) = IsRightFrom s front node.0 packet (kind_at s node.0)
IsOwnEntry s front (entries.Home node home careof sequence end) = is_agent_kind (kind_at s node.0) ≡ true
IsOwnEntry s front (entries.Made node peer number home careof) = IsMadeOfCome front node.0 number home careof
IsOwnEntry s front _ = Unit {0}

-- what is sent as data is no packet, no mobility message and no extension header
abbrev pub IsPlainEvent : Event → Type 0
IsPlainEvent (Payload node to proto payload) = (names_no_body proto ≡ false) × (proto ≡ 135 → ⊥) × (proto ≡ 41 → ⊥)
IsPlainEvent _ = Unit {0}

abbrev pub ArePlain : Content → Type 0
ArePlain c = AllByRecursion IsPlainEvent c.events
