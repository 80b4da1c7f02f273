-- The verdict on a home registration, over its contents, its shield, what the place answers, and what the agent keeps:
-- the first of these rows that applies. RFC 6275 sections 10.3.1 and 10.3.2
use Rattle.std.specs.Prelude.{ℕ, ◌+◌, ◌*◌, ◌/◌, Bool, false, not, ◌&&◌, ◌||◌, ◌==◌, nat_lt, if◌then◌else◌, min, Option, Some, None, unwrap_or}
use Rattle.std.specs.Option.{option_map_or}
use Rattle.mip_words.specs.Constants.{lifetime_unit, max_home_lifetime}
use Rattle.mip_words.specs.Addresses.{is_routable, prefix_of}
use Rattle.mip_words.specs.Sequence.{is_after}
use Rattle.mip_words.specs.declared.address.Address.{Address}
use Rattle.mip_words.specs.declared.shield.Shield.{Shield}
use Rattle.mip_words.specs.declared.why.Why.TheVariants as whys
use Rattle.mip_outside.specs.declared.claim.Claim.{Claim}
use Rattle.mip_outside.specs.Places.{is_held}
use Rattle.mip_reception.specs.declared.registration.Registration.{Registration}
use Rattle.mip_reception.specs.Registrations.{home_of, careof_of, deletes, registered_of}
use Rattle.mip_reception.specs.Statuses as statuses
use Rattle.mip_rules_agent.specs.declared.bench.Bench.{Bench}
use Rattle.mip_rules_agent.specs.declared.home_binding.HomeBinding.{HomeBinding}
use Rattle.mip_rules_agent.specs.declared.home_verdict.HomeVerdict.{HomeVerdict}
use Rattle.mip_rules_agent.specs.declared.home_verdict.HomeVerdict.TheVariants.{Refuse, Deny, Accept}

-- it came under the shield of this home address
abbrev pub is_from : Address → Option Shield → Bool
is_from home shield = option_map_or (λ s. s.from.0 == home.0) shield false

-- both have the same first 64 bits
abbrev pub is_near : Address → Address → Bool
is_near a b = prefix_of a.0 == prefix_of b.0

-- the lifetime granted, in units of 4 s: an hour at most, not beyond the valid time of the prefix, and none where the
-- registration ends. RFC 6275 section 10.3.1
abbrev pub granted_of : Bench → Registration → ℕ
granted_of b r = if deletes r then 0 else min (min r.lifetime max_home_lifetime) (b.valid / 4)

abbrev pub accepted : Bench → Registration → HomeVerdict
accepted b r = Accept (home_of r) (registered_of r) r.sequence (granted_of b r)

-- 130 where there is no room for a registration; a deregistration is accepted
abbrev pub by_room : Bench → Registration → Option HomeVerdict
by_room b r =
    if deletes r then Some (accepted b r)
    else if b.full then Some (Deny statuses.insufficient_resources r.sequence)
    else None

-- 135, with the sequence that is kept, where the update does not come after it
abbrev pub by_sequence : Bench → Registration → Option ℕ → Option HomeVerdict
by_sequence b r None = by_room b r
by_sequence b r (Some last) = if not (is_after r.sequence last) then Some (Deny statuses.sequence_out_of_window last) else by_room b r

-- a care-of address is routable, and not one of the home link
abbrev pub is_away : Bench → Registration → Bool
is_away b r = is_routable (careof_of r).0 && not (is_near (careof_of r) b.own)

-- the rows that come before the claim of the home address: silence where it is not for a home agent, or did not come
-- under the shield of the home address; 132 where the home is not on the agent's link, 133 where it is not served,
-- 174 where the care-of address is no address of another link
unfoldable pub before_claim : Bench → Option Shield → Registration → Option HomeVerdict
before_claim b shield r =
    if not r.for_agent then Some (Refuse whys.Role)
    else if not (is_from (home_of r) shield) then Some (Refuse whys.Unshielded)
    else if not (is_near (home_of r) b.own) || nat_lt b.valid 4 then Some (Deny statuses.not_home_subnet r.sequence)
    else if not b.served then Some (Deny statuses.not_home_agent r.sequence)
    else if not (deletes r) && not (is_away b r) then Some (Deny statuses.invalid_careof_address r.sequence)
    else by_sequence b r b.kept

-- 134 where somebody else holds the home address
abbrev pub by_claim : Bench → Registration → Claim → HomeVerdict
by_claim b r claim = if is_held claim then accepted b r else Deny statuses.dad_failed r.sequence

-- the verdict, where this is the one of the rows before the claim
abbrev pub with_claim : Bench → Registration → Claim → Option HomeVerdict → HomeVerdict
with_claim b r claim before = unwrap_or before (by_claim b r claim)

unfoldable pub verdict : Bench → Option Shield → Claim → Registration → HomeVerdict
verdict b shield claim r = with_claim b r claim (before_claim b shield r)

-- the binding of an accepted update: until 4 s later for each unit granted
abbrev pub binding_for : ℕ → Address → (sequence granted : ℕ) → HomeBinding
binding_for now careof sequence granted = record { careof = careof; sequence = sequence; end = record { 0 = now + lifetime_unit * granted } }
