-- What a call changes: the registration that it accepts.
use Rattle.std.specs.Prelude.{◌≡◌, ℕ, List, [], ◌++◌, Bool, true, false, Option, Some, None, Result, IfOk, OnErr, option_map}
use Rattle.mip_words.specs.declared.address.Address.{Address}
use Rattle.mip_outside.specs.Places.{Around, with_claim, without_claim}
use Rattle.mip_reception.specs.declared.registration.Registration.{Registration}
use Rattle.mip_reception.specs.Registrations.{home_of, deletes}
use Rattle.mip_entries.specs.declared.answer.Answer.{Answer}
use Rattle.mip_rules_agent.specs.declared.home_binding.HomeBinding.{HomeBinding}
use Rattle.mip_rules_agent.specs.declared.served.Served.{Served}
use Rattle.mip_rules_agent.specs.declared.home_verdict.HomeVerdict.{HomeVerdict}
use Rattle.mip_rules_agent.specs.declared.home_verdict.HomeVerdict.TheVariants.{Refuse, Deny, Accept}
use Rattle.mip_rules_agent.specs.Known.{Known}
use Rattle.mip_rules_agent.specs.Steps.{answer_of, Registers, Claims, Releases}
use Rattle.mip_rules_agent.specs.Questions.{bound_to, holding, with_served}
use Rattle.mip_homeagent.specs.declared.change.Change.{Change}
use Rattle.mip_homeagent.specs.declared.response.Response.{Response}

-- an address is held from here on, or no more; it stays where nothing is said
abbrev pub with_holding : Option Bool → Address → List Served → List Served
with_holding None home homes = homes
with_holding (Some held) home homes = with_served (holding held) home homes

abbrev pub changed : Change → Known → Known
changed c k = record {
  last = k.last;
  homes = with_holding c.holding c.home (with_served (bound_to c.binding) c.home k.homes);
  ends = c.ends.items;
  agents = k.agents;
  plan = k.plan;
}

abbrev pub with_change : Option Change → Known → Known
with_change None k = k
with_change (Some c) k = changed c k

-- what it makes of the claims of a place
abbrev pub Claiming : Type 0
Claiming = (ℕ → Bool) → ℕ → Bool

abbrev pub unclaimed : Claiming
unclaimed claims = claims

abbrev pub claims_held : Option Bool → Address → Claiming
claims_held None home claims = claims
claims_held (Some true) home claims = with_claim true home.0 claims
claims_held (Some false) home claims = without_claim home.0 claims

abbrev pub claims_with : Option Change → Claiming
claims_with None claims = claims
claims_with (Some c) claims = claims_held c.holding c.home claims

abbrev pub claims_made : Response → Claiming
claims_made r = claims_with r.change

-- what a call makes of its place: its claims change by what the call answers, and are as they were where it fails; what no call
-- of a place changes stays, and it is the same place
pub record ChangesClaims {A E : Type 0} (result : Result A E) (claiming : A → Claiming) (before after : Around) (old new : Option (ℕ → Bool)) (is_same : Type 0) : Type 0 where
  pub claims : IfOk result (λ a. new ≡ option_map (claiming a) old)
  pub left : OnErr result (new ≡ old)
  pub around : after ≡ before
  pub same : is_same

-- an address is claimed with the first registration, and given up with the deregistration
abbrev pub holding_of : (held ends : Bool) → Option Bool
holding_of true true = Some false
holding_of true false = None
holding_of false true = None
holding_of false false = Some true

-- of a verdict: whether it changes who holds the home address
abbrev pub holding_by : Bool → Registration → HomeVerdict → Option Bool
holding_by held r (Refuse why) = None
holding_by held r (Deny status last) = None
holding_by held r (Accept home careof sequence granted) = holding_of held (deletes r)

-- the part that is claimed with the verdict, and the part that is given up at the end of the call
abbrev pub claim_part : Option Bool → Option Bool
claim_part (Some true) = Some true
claim_part _ = None

abbrev pub release_part : Option Bool → Option Bool
release_part (Some false) = Some false
release_part _ = None

-- an accepted update is of its home
abbrev pub IsOfHome : Registration → HomeVerdict → Type 0
IsOfHome r (Refuse why) = Unit {0}
IsOfHome r (Deny status last) = Unit {0}
IsOfHome r (Accept home careof sequence granted) = home ≡ home_of r

-- the entries of an accepted update
abbrev pub answers_held : Option Bool → Address → List Answer
answers_held None home = []
answers_held (Some true) home = answer_of (Claims home)
answers_held (Some false) home = answer_of (Releases home)

abbrev pub answers_change : Address → HomeBinding → Option Bool → List Answer
answers_change home b holding = answer_of (Registers 0 home b) ++ answers_held holding home
