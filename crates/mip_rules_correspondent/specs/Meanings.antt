-- What the words of the verdicts mean, in numbers. RFC 6275 sections 5.2.6, 6.1.7 and 9.5.1; RFC 4291 section 2.4
use Rattle.std.specs.Prelude.{◌≡◌, ◌≢◌, ◌⊎◌, ◌↔◌, ℕ, ◌+◌, ◌*◌, ◌^◌, ◌≤◌, ◌<◌, List, Bool, true, false, Option, Some, None, is_some, Ok}
use Rattle.mip_words.specs.declared.address.Address.{Address}
use Rattle.mip_mobhdr.specs.OptionValues.{Values}
use Rattle.mip_mobhdr.specs.Said.Said.{Update}
use Rattle.mip_mobhdr.specs.Reading.{update_of}
use Rattle.mip_nonce.specs.Secrets.{kcn_of, nonce_of}
use Rattle.mip_tokens.specs.Token.{home_token_of, careof_token_of, kbm_both_of, kbm_home_of}
use Rattle.mip_tokens.specs.declared.kbm.Kbm.{Kbm}
use Rattle.mip_bcache.specs.declared.accepted.Accepted.{Accepted}
use Rattle.mip_reception.specs.declared.registration.Registration.{Registration}
use Rattle.mip_reception.specs.Registrations.{home_of, careof_of, deletes, registered_of}
use Rattle.mip_rules_correspondent.specs.Verdicts.{Bench}

-- the new sequence is 1 to 32,767 more than the last one, counting round
pub record IsAhead (last new : ℕ) : Type 0 where
  pub steps : ℕ
  pub some : 1 ≤ steps
  pub few : steps ≤ 32767
  pub there : (new ≡ last + steps) ⊎ (new + 65536 ≡ last + steps)

-- its period begins then or before, and the eighth from it has not ended: 30 s each
abbrev pub IsLiving : (now n : ℕ) → Type 0
IsLiving now n = (n * 30000 ≤ now) × (now < (n + 8) * 30000)

-- of all blocks of this size, it lies in the one with this index
abbrev pub IsWithin : (size index a : ℕ) → Type 0
IsWithin size index a = (index * size ≤ a) × (a < (index + 1) * size)

-- an address that packets may be routed to
pub record IsOrdinary (a : ℕ) : Type 0 where
  -- not the unspecified address, and not that of the loopback
  pub specified : a ≢ 0
  pub elsewhere : a ≢ 1
  -- its first 8 bits are not ff, and its first 10 bits not those of fe80
  pub unicast : IsWithin (2 ^ 120) 255 a → ⊥
  pub global : IsWithin (2 ^ 118) 1018 a → ⊥

-- the addresses of an update, and whether it ends what is bound
pub record NamesAddresses (r : Registration) : Type 0 where
  -- the home address: that of the Home Address option, else the source
  pub home : (a : Address) → r.home_option ≡ Some a → home_of r ≡ a
  pub home_source : r.home_option ≡ None → home_of r ≡ r.source
  -- the care-of address: the alternate one, else the source
  pub careof : (a : Address) → r.alternate ≡ Some a → careof_of r ≡ a
  pub careof_source : r.alternate ≡ None → careof_of r ≡ r.source
  -- it ends what is bound where it asks for no time, or both are the same
  pub ends : (deletes r ≡ true) ↔ ((r.lifetime ≡ 0) ⊎ ((careof_of r).0 ≡ (home_of r).0))
  -- then it registers the home address, and else the care-of address
  pub ended : deletes r ≡ true → registered_of r ≡ home_of r
  pub bound : deletes r ≡ false → registered_of r ≡ careof_of r

-- an update asks what its fields and its options say, from the source of its packet and with the home address there
pub record IsAsked (source : Address) (home : Option Address) (message : List ℕ) (r : Registration) : Type 0 where
  pub sequence : ℕ
  pub ack : Bool
  pub for_agent : Bool
  pub local : Bool
  pub key : Bool
  pub lifetime : ℕ
  pub options : Values
  pub read : update_of message ≡ Ok (Update sequence ack for_agent local key lifetime options)
  pub is : r ≡ record {
    source = source;
    home_option = home;
    sequence = sequence;
    ack = ack;
    for_agent = for_agent;
    lifetime = lifetime;
    alternate = options.alternate;
    nonces = options.nonces;
    number = options.number;
    authorized = is_some options.authorization;
  }

-- the key of an accepted update: of the home token alone where the binding ends, else of both tokens; each is that of its
-- address under the nonce that is told
pub record IsKeyed (b : Bench) (r : Registration) (accepted : Accepted) (kbm : Kbm) : Type 0 where
  pub ends : deletes r ≡ true → kbm.0 ≡ kbm_home_of (home_token_of (kcn_of b.secrets) (home_of r) (nonce_of b.secrets accepted.home_nonce))
  pub lasts : deletes r ≡ false
      → (j : ℕ)
      × (accepted.careof_nonce ≡ Some j)
      × (kbm.0 ≡ kbm_both_of (home_token_of (kcn_of b.secrets) (home_of r) (nonce_of b.secrets accepted.home_nonce)) (careof_token_of (kcn_of b.secrets) (careof_of r) (nonce_of b.secrets j)))
