-- What an origin means: the entries of a history that stand behind an accepted update. RFC 6275 section 5.2
use Rattle.std.specs.Prelude.{◌≡◌, ℕ, ◌≤◌, List, ◌∷◌, ◌++◌, Bool, ◌==◌, if◌then◌else◌, Option, Some, None, ⊤}
use Rattle.mip_words.specs.declared.address.Address.{Address}
use Rattle.mip_words.specs.declared.ids.NodeId.{NodeId}
use Rattle.mip_tokens.specs.Token.{authenticator_over}
use Rattle.mip_packets.specs.Says.{UpdateIdentity, carried}
use Rattle.mip_packets.specs.Says.Carried.{Test, Update}
use Rattle.mip_entries.specs.declared.entry.Entry.{Entry}
use Rattle.mip_entries.specs.declared.entry.Entry.TheVariants as entries
use Rattle.mip_provenance.specs.declared.maker.Maker.{Maker}
use Rattle.mip_provenance.specs.declared.maker.Maker.TheVariants.{Node, Outsider}
use Rattle.mip_provenance.specs.declared.accepted_update.AcceptedUpdate.{AcceptedUpdate}
use Rattle.mip_provenance.specs.Entries.{packet_in, declared_in, life_in}
use Rattle.mip_provenance.specs.Keys.{kbm_of_tokens}

-- packet k carries this update with its authenticator
pub record Carries (past : List Entry) (k : ℕ) (key : UpdateIdentity) : Type 0 where
  pub packet : List ℕ
  pub posted : packet_in past k ≡ Some packet
  pub says : carried packet ≡ Update key

-- packet k is a Home Test or a Care-of Test with this token
pub record IsTest (past : List Entry) (k : ℕ) (token : List ℕ) : Type 0 where
  pub packet : List ℕ
  pub posted : packet_in past k ≡ Some packet
  pub kind : ℕ
  pub index : ℕ
  pub address : Address
  pub says : carried packet ≡ Test kind index token address

-- who posts packet k in an entry
abbrev pub poster : ℕ → Entry → Option Maker
poster k (entries.Sent number node shielded packet) = if number == k then Some (Node node) else None
poster k (entries.Injected number outsider link packet) = if number == k then Some (Outsider outsider) else None
poster k _ = None

-- of all packets that carry this update the one of least number is this; it was posted by this maker, behind these entries
pub record IsFirstOf (past : List Entry) (key : UpdateIdentity) (update : ℕ) (maker : Maker) (earlier : List Entry) : Type 0 where
  pub entry : Entry
  pub later : List Entry
  pub whole : past ≡ earlier ++ entry ∷ later
  pub posts : poster update entry ≡ Some maker
  pub unposted : packet_in earlier update ≡ None
  pub carries : Carries past update key
  pub least : (k : ℕ) → Carries past k key → update ≤ k

-- the entry by which packet k comes to a node, or is heard by an outsider
abbrev pub reaching : Maker → ℕ → Entry
reaching (Node node) k = entries.Handed k node
reaching (Outsider outsider) k = entries.Heard k outsider

-- among these entries of the history a test with the token came to this maker
pub record HasReached (past earlier : List Entry) (maker : Maker) (token : List ℕ) : Type 0 where
  pub number : ℕ
  pub before : List Entry
  pub after : List Entry
  pub whole : earlier ≡ before ++ reaching maker number ∷ after
  pub test : IsTest past number token

-- packet `number` is the first that the node sent in its present life which is a test of this kind (0 home, 1 care-of), with this
-- nonce index and this token, to this address
pub record WasSent (past : List Entry) (node : NodeId) (number kind index : ℕ) (token : List ℕ) (address : Address) : Type 0 where
  pub earlier : List Entry
  pub shielded : Bool
  pub packet : List ℕ
  pub later : List Entry
  pub whole : past ≡ earlier ++ entries.Sent number node shielded packet ∷ later
  pub this_life : life_in earlier node.0 ≡ life_in past node.0
  pub says : carried packet ≡ Test kind index token address
  pub first : (before : List Entry) (k : ℕ) (hidden : Bool) (other : List ℕ) (after : List Entry)
      → earlier ≡ before ++ entries.Sent k node hidden other ∷ after
      → life_in before node.0 ≡ life_in past node.0
      → carried other ≡ Test kind index token address
      → ⊥

-- the care-of token with its packet, where the acceptance names a care-of nonce index; none where the binding ends
abbrev pub HasCareof : List Entry → AcceptedUpdate → List Entry → Maker → Option ℕ → Option (List ℕ) → Option ℕ → Type 0
HasCareof past a earlier maker (Some index) (Some token) (Some cot) =
    WasSent past a.node cot 1 index token a.careof × HasReached past earlier maker token
HasCareof past a earlier maker None None None = ⊤
HasCareof past a earlier maker _ _ _ = ⊥

-- what stands in the history before an update was accepted: the packets HOT, COT and UPDATE
pub record HasOrigin (past : List Entry) (a : AcceptedUpdate) (hot : ℕ) (cot : Option ℕ) (update : ℕ) : Type 0 where
  -- the address of the node that accepted it
  pub own : Address
  pub own_is : declared_in past a.node.0 ≡ Some own
  -- what the accepted packet carries
  pub key : UpdateIdentity
  pub carries : Carries past a.number key
  -- UPDATE is the first packet with it, from this maker
  pub maker : Maker
  pub earlier : List Entry
  pub first : IsFirstOf past key update maker earlier
  -- the node sent HOT to the home address; its token had reached the maker before
  pub home_token : List ℕ
  pub home_sent : WasSent past a.node hot 0 a.home_index home_token a.home
  pub home_reached : HasReached past earlier maker home_token
  -- the node sent COT to the care-of address; its token had reached the maker before
  pub careof_token : Option (List ℕ)
  pub careof : HasCareof past a earlier maker a.careof_index careof_token cot
  -- these tokens give the authenticator
  pub authentic : authenticator_over (kbm_of_tokens home_token careof_token) a.careof own key.message ≡ key.authenticator
