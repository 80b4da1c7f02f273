-- Where an address lies, and that a home agent registers a home only in its place: one of its link that it serves, for a care-of
-- address of another link, after the sequence that is kept, and where there is room. RFC 6275 section 10.3.1
use Rattle.std.specs.Prelude.{◌≡◌, ◌≢◌, ◌⊎◌, ℕ, ◌+◌, ◌*◌, ◌^◌, ◌≤◌, ◌<◌, length, true, Option, Some, is_some}
use Rattle.mip_words.specs.Addresses.{is_routable}
use Rattle.mip_words.specs.Sequence.{is_after}
use Rattle.mip_words.specs.declared.address.Address.{Address}
use Rattle.mip_rules_agent.specs.declared.home_binding.HomeBinding.{HomeBinding}
use Rattle.mip_rules_agent.specs.declared.identity.Identity.{Identity}
use Rattle.mip_rules_agent.specs.Known.{Known}
use Rattle.mip_rules_agent.specs.Steps.{Step, Registers}
use Rattle.mip_rules_agent.specs.Questions.{careof_at, kept_of, is_served, rows_at}

-- this prefix of 64 bits stands before an address
abbrev pub HasPrefix : (prefix a : ℕ) → Type 0
HasPrefix prefix a = (prefix * 2 ^ 64 ≤ a) × (a < (prefix + 1) * 2 ^ 64)

-- two addresses are of one link: one prefix stands before both
pub record AreOfOneLink (a b : Address) : Type 0 where
  pub prefix : ℕ
  pub first : HasPrefix prefix a.0
  pub last : HasPrefix prefix b.0

-- a care-of address that an agent takes: it is routable, and none of the agent's link
pub record IsElsewhere (own careof : Address) : Type 0 where
  pub routable : is_routable careof.0 ≡ true
  pub other : AreOfOneLink careof own → ⊥

-- what is registered of a home; it ends the registration where the care-of address is the home address
pub record IsInPlace (me : Identity) (k : Known) (now : ℕ) (home : Address) (b : HomeBinding) : Type 0 where
  pub near : AreOfOneLink home me.own
  pub served : is_served k home ≡ true
  pub newer : (last : ℕ) → kept_of k home ≡ Some last → is_after b.sequence last ≡ true
  pub elsewhere : b.careof.0 ≢ home.0 → IsElsewhere me.own b.careof
  -- the home is registered, or fewer are than there is room for
  pub room : b.careof.0 ≢ home.0 → (is_some (careof_at k now home) ≡ true) ⊎ (length (rows_at now k.homes) < me.room)
  pub short : b.end.0 ≤ now + 3600000

abbrev pub RegistersInPlace : Identity → Known → (now : ℕ) → Step → Type 0
RegistersInPlace me k now (Registers number home b) = IsInPlace me k now home b
RegistersInPlace me k now _ = Unit {0}
