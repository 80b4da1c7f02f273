-- What entries tell of a node's claims. RFC 6275 sections 11.5.1 to 11.5.5
use Rattle.std.specs.Prelude.{◌≡◌, ℕ, List, [], ◌∷◌, Bool, true, Option, Some}
use Rattle.mip_outside.specs.Places.{with_claim, without_claim}
use Rattle.mip_entries.specs.declared.answer.Answer.{Answer}
use Rattle.mip_entries.specs.declared.answer.Answer.TheVariants.{Note}
use Rattle.mip_entries.specs.declared.entry.Entry.TheVariants.{Claimed, Released}
use Rattle.mip_mobile.specs.Placing.{Claims}

-- an address that is claimed is the node's, and one that is released is not
abbrev pub claim_told : Answer → Claims → Claims
claim_told (Note (Claimed who link address)) claims = with_claim true address.0 claims
claim_told (Note (Released who link address)) claims = without_claim address.0 claims
claim_told _ claims = claims

abbrev pub claims_told : List Answer → Claims → Claims
claims_told [] claims = claims
claims_told (a ∷ answers) claims = claims_told answers (claim_told a claims)

-- each address is the node's afterwards exactly where the entries tell so, where a place tells its claims
abbrev pub AreLeftAsTold : Option Claims → List Answer → Option Claims → Type 0
AreLeftAsTold before answers after = (old new : Claims) → before ≡ Some old → after ≡ Some new → (address : ℕ) → new address ≡ claims_told answers old address
