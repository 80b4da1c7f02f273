-- What an agent and a mobile hold in the table of claims. RFC 6275 sections 10.4.1 and 11.5.1
use Rattle.std.specs.Prelude.{◌≡◌, ℕ, List, true, Option, Some}
use Rattle.mip_words.specs.declared.address.Address.{Address}
use Rattle.mip_rules_agent.specs.Questions.{holds}
use Rattle.mip_rules_mobile.specs.declared.attachment.Attachment.TheVariants.{Away}
use Rattle.mip_history.specs.Setup.{Setup}
use Rattle.mip_history.specs.Runs.{Run}
use Rattle.mip_history.specs.Questions.{holder_in}
use Rattle.mip_history.specs.Knowing.{agent_known_in, mobile_known_in}
use Rattle.mip_law_claims.specs.Claimings.{is_on_link}

-- an agent that serves these homes holds the address of a home that it has claimed and not given up, where the address is on a link
abbrev pub HoldsWhatItClaimed : Setup → Run → ℕ → (serves : List Address) → Type 0
HoldsWhatItClaimed s run n serves = (home : Address) → holds (agent_known_in run n serves) home ≡ true → is_on_link s.links home ≡ true → holder_in run.past home.0 ≡ Some n

-- a mobile with this home address holds the care-of address that it uses, where the address is on a link
abbrev pub HoldsWhatItUses : Setup → Run → ℕ → (own : Address) → (agent : Option Address) → Type 0
HoldsWhatItUses s run n own agent =
    (careof : Address) → (mobile_known_in s run n own agent).standing ≡ Away careof → is_on_link s.links careof ≡ true → holder_in run.past careof.0 ≡ Some n
