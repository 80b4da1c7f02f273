-- The verdict on a Binding Update, over its bytes, the secrets, and what is kept of its home: the first of these
-- rows that applies. RFC 6275 sections 5.2.6, 9.5.1 and 9.5.4
use Rattle.std.specs.Prelude.{ℕ, ◌+◌, ◌*◌, List, Bool, not, ◌&&◌, if◌then◌else◌, min, nat_lt, Option, Some, None, option_map}
use Rattle.mip_words.specs.Addresses.{is_routable}
use Rattle.mip_words.specs.Sequence.{is_after}
use Rattle.mip_words.specs.declared.address.Address.{Address}
use Rattle.mip_words.specs.declared.why.Why.TheVariants as whys
use Rattle.mip_words.specs.Constants.{lifetime_unit, max_rr_binding_lifetime}
use Rattle.mip_mobhdr.specs.declared.indices.Indices.{Indices}
use Rattle.mip_nonce.specs.Secrets.{Life, kcn_of, nonce_of}
use Rattle.mip_nonce.specs.Window.{number_named}
use Rattle.mip_tokens.specs.Token.{home_token_of, careof_token_of, kbm_both_of, kbm_home_of, is_authentic}
use Rattle.mip_tokens.specs.declared.kbm.Kbm.{Kbm}
use Rattle.mip_bcache.specs.declared.accepted.Accepted.{Accepted}
use Rattle.mip_reception.specs.declared.registration.Registration.{Registration}
use Rattle.mip_rules_correspondent.specs.declared.verdict.Verdict.{Verdict}
use Rattle.mip_rules_correspondent.specs.declared.verdict.Verdict.TheVariants.{Refuse, Deny, Accept}
use Rattle.mip_reception.specs.Statuses.{insufficient_resources, home_registration_not_supported, sequence_out_of_window, expired_home_nonce, expired_careof_nonce, expired_nonces}
use Rattle.mip_reception.specs.Registrations.{home_of, careof_of, deletes, registered_of}

-- who judges, when, and what it keeps of the home of the update
pub record Bench : Type 0 where
  -- the address and the secrets of the judge
  pub own : Address
  pub secrets : Life
  pub now : ℕ
  -- the sequence that the update must come after, if one is kept
  pub floor : Option ℕ
  -- there is no room for the home
  pub full : Bool
  -- how many bindings a home may have
  pub numbers : ℕ

-- the lifetime granted, in units of 4 s: none where the binding ends. RFC 6275 section 9.5.1
abbrev pub granted_of : Registration → ℕ
granted_of r = if deletes r then 0 else min r.lifetime max_rr_binding_lifetime

-- the number of the binding: the one that the update names, where the judge has it; else 0
abbrev pub number_among : ℕ → Option ℕ → ℕ
number_among numbers None = 0
number_among numbers (Some number) = if nat_lt number numbers then number else 0

-- 0 too where the binding ends
abbrev pub number_of : ℕ → Registration → ℕ
number_of numbers r = if deletes r then 0 else number_among numbers r.number

-- the binding, under the nonces with these numbers
abbrev pub accepted_of : ℕ → Registration → ℕ → Option ℕ → Accepted
accepted_of now r i j = record {
  careof = registered_of r;
  sequence = r.sequence;
  end = record { 0 = now + lifetime_unit * granted_of r };
  home_nonce = i;
  careof_nonce = j;
}

-- 130 where there is no room; else the update is accepted
abbrev pub by_room : Bench → Registration → ℕ → Option ℕ → Kbm → Verdict
by_room b r i j kbm =
    if b.full then Deny insufficient_resources r.sequence (Some kbm)
    else Accept (home_of r) (number_of b.numbers r) (accepted_of b.now r i j) (granted_of r) kbm

-- 135, with the sequence that is kept, where the update does not come after it
abbrev pub by_sequence : Bench → Registration → ℕ → Option ℕ → Kbm → Option ℕ → Verdict
by_sequence b r i j kbm None = by_room b r i j kbm
by_sequence b r i j kbm (Some last) =
    if not (is_after r.sequence last) then Deny sequence_out_of_window last (Some kbm) else by_room b r i j kbm

-- the authenticator must be that of the key
abbrev pub by_key : Bench → Registration → List ℕ → ℕ → Option ℕ → Kbm → Verdict
by_key b r message i j kbm =
    if not (is_authentic kbm.0 (registered_of r) b.own message) then Refuse whys.Authenticator
    else by_sequence b r i j kbm b.floor

-- the key: of the home token alone where the binding ends, else of both tokens
abbrev pub kbm_of : Bench → Registration → ℕ → Option ℕ → Kbm
kbm_of b r i None = record { 0 = kbm_home_of (home_token_of (kcn_of b.secrets) (home_of r) (nonce_of b.secrets i)) }
kbm_of b r i (Some j) =
    record {
      0 = kbm_both_of (home_token_of (kcn_of b.secrets) (home_of r) (nonce_of b.secrets i))
          (careof_token_of (kcn_of b.secrets) (careof_of r) (nonce_of b.secrets j));
    }

-- the numbers of the nonces: the first for home, the second for care-of, which is none where the binding ends.
-- 136, 137 or 138 where an index names no valid nonce
abbrev pub by_numbers : Bench → Registration → List ℕ → Option ℕ → Option (Option ℕ) → Verdict
by_numbers b r message None None = Deny expired_nonces r.sequence None
by_numbers b r message None (Some j) = Deny expired_home_nonce r.sequence None
by_numbers b r message (Some i) None = Deny expired_careof_nonce r.sequence None
by_numbers b r message (Some i) (Some j) = by_key b r message i j (kbm_of b r i j)

-- where the binding ends the care-of index is ignored
abbrev pub careof_number : Bench → Registration → Indices → Option (Option ℕ)
careof_number b r indices = if deletes r then Some None else option_map Some (number_named b.now indices.careof)

abbrev pub by_indices : Bench → Registration → List ℕ → Option Indices → Verdict
by_indices b r message None = Refuse whys.Options
by_indices b r message (Some indices) = by_numbers b r message (number_named b.now indices.home) (careof_number b r indices)

-- 131 where the update is for a home agent; silence where an address is not routable, or an option is missing
unfoldable pub verdict : Bench → Registration → List ℕ → Verdict
verdict b r message =
    if r.for_agent then Deny home_registration_not_supported r.sequence None
    else if not (is_routable (home_of r).0 && is_routable (careof_of r).0) then Refuse whys.Unroutable
    else if not r.authorized then Refuse whys.Options
    else by_indices b r message r.nonces
