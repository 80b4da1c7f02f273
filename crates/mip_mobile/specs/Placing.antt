-- What a mobile asks of its place as it comes to a link and leaves one. RFC 6275 sections 11.5.1 to 11.5.5
use Rattle.std.specs.Prelude.{◌≡◌, ℕ, Bool, true, false, if◌then◌else◌}
use Rattle.mip_words.specs.declared.address.Address.{Address}
use Rattle.mip_outside.specs.declared.claim.Claim.{Claim}
use Rattle.mip_outside.specs.Places.{Around, claim_in, is_held, with_claim, without_claim}
use Rattle.mip_rules_mobile.specs.declared.attachment.Attachment.{Attachment}
use Rattle.mip_rules_mobile.specs.declared.attachment.Attachment.TheVariants.{Detached, AtHome, Away}
use Rattle.mip_rules_mobile.specs.Calls.{Call, Attach, Leave}
use Rattle.mip_rules_mobile.specs.Known.{Known}
use Rattle.mip_rules_mobile.specs.HomeQuestions.{home_of}
use Rattle.mip_rules_mobile.specs.MovingRules.{address_under, uses_prefix}

-- a router advertises a prefix: the claims are what the place answers
abbrev pub attach_at : Around → (home : Address) → (prefix : ℕ) → Call
attach_at around home prefix = Attach prefix (claim_in around home.0) (claim_in around (address_under home prefix).0)

abbrev pub leave_at : Around → (home : Address) → Call
leave_at around home = Leave (claim_in around home.0)

abbrev pub Claims : Type 0
Claims = ℕ → Bool

-- once the address is given up that it held: away, the care-of address; at home, the home address, where a claim of it is granted
abbrev pub claims_left : Attachment → (home : Address) → (held : Bool) → Claims → Claims
claims_left Detached home held claims = claims
claims_left AtHome home held claims = if held then without_claim home.0 (with_claim true home.0 claims) else claims
claims_left (Away careof) home held claims = without_claim careof.0 claims

-- and once it asked for its address under a prefix
abbrev pub claims_come : Attachment → (home address : Address) → (held granted : Bool) → Claims → Claims
claims_come standing home address held granted claims = with_claim granted address.0 (claims_left standing home held claims)

-- the claims after a call of this kind: where it uses the prefix already, they stay
abbrev pub claims_attached : Around → Known → (prefix : ℕ) → Claims → Claims
claims_attached around k prefix claims =
    if uses_prefix k.standing (home_of k) prefix then claims
    else claims_come k.standing (home_of k) (address_under (home_of k) prefix) (is_held (claim_in around (home_of k).0)) (is_held (claim_in around (address_under (home_of k) prefix).0)) claims

abbrev pub claims_after_leaving : Around → Known → Claims → Claims
claims_after_leaving around k claims = claims_left k.standing (home_of k) (is_held (claim_in around (home_of k).0)) claims

-- these are the place's answers, as far as a call needs them: none where it uses the prefix already, and the one of the home
-- address only where it stood at home
abbrev pub AreAnswered : Around → Known → (prefix : ℕ) → (of_home of_address : Claim) → Type 0
AreAnswered around k prefix of_home of_address =
    uses_prefix k.standing (home_of k) prefix ≡ false → (k.standing ≡ AtHome → of_home ≡ claim_in around (home_of k).0) × (of_address ≡ claim_in around (address_under (home_of k) prefix).0)
