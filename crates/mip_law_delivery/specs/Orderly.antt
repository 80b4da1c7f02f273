-- What a setup has that a schedule gives.
use Rattle.std.specs.Prelude.{◌≡◌, ◌≢◌, ℕ, ◌<◌, ◌≤◌, ◌^◌, List, length, true, false, Some, is_some, slice_get}
use Rattle.mip_words.specs.Addresses.{is_routable}
use Rattle.mip_words.specs.declared.address.Address.{Address}
use Rattle.mip_links.specs.Table.{link_of}
use Rattle.mip_rules_agent.specs.Pasts.{is_one_of}
use Rattle.mip_rules_agent.specs.Rules.{anycast_of}
use Rattle.mip_history.specs.Setup.{Setup, Host}
use Rattle.mip_history.specs.Setup.Kind.{Agent}

-- there are at most 32 nodes; each has an address of its own, which is routable and on a link, and is no home-agents anycast address;
-- no agent serves its own address; and prefixes have 64 bits
pub record IsOrderly (s : Setup) : Type 0 where
  pub few : length s.hosts ≤ 32
  pub prefixes : (l prefix : ℕ) → slice_get s.links l ≡ Some prefix → prefix < 2 ^ 64
  pub routable : (n : ℕ) (host : Host) → slice_get s.hosts n ≡ Some host → is_routable host.address.0 ≡ true
  pub linked : (n : ℕ) (host : Host) → slice_get s.hosts n ≡ Some host → is_some (link_of s.links host.address.0) ≡ true
  pub differ : (m n : ℕ) (a b : Host) → slice_get s.hosts m ≡ Some a → slice_get s.hosts n ≡ Some b → a.address.0 ≡ b.address.0 → m ≡ n
  pub unlike : (m n : ℕ) (a b : Host) → slice_get s.hosts m ≡ Some a → slice_get s.hosts n ≡ Some b → a.address.0 ≢ anycast_of b.address
  pub unserved : (n : ℕ) (own : Address) (preference life room : ℕ) (serves : List Address) → slice_get s.hosts n ≡ Some (record { address = own; kind = Agent preference life room serves })
      → is_one_of serves own ≡ false
