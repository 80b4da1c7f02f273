-- Laws of what a mobile sends to its agent, and of how long that counts. RFC 6275 sections 5.1, 10.4.6, 11.6.1 and 11.7.1
use Rattle.std.specs.Prelude.{◌≡◌, Bool, true, false, Some}
use Rattle.mip_words.specs.declared.address.Address.{Address}
use Rattle.mip_words.specs.declared.shield.Shield.{Shield}
use Rattle.mip_entries.specs.declared.answer.Answer.{Answer}
use Rattle.mip_entries.specs.declared.answer.Answer.TheVariants.{Send, Note}
use Rattle.mip_rules_mobile.specs.Sendings.{RegistersHome, DeregistersHome}
use Rattle.mip_rules_mobile.specs.Steps.{Step, Sends, Restarts}

-- a packet goes from the home address to the agent under the shield of these two
abbrev pub IsShieldedTo : (home agent : Address) → Answer → Type 0
IsShieldedTo home agent (Send shield packet) = shield ≡ Some (let s : Shield = record { from = home; to = agent } in s)
IsShieldedTo home agent (Note entry) = ⊥

-- a home registration or deregistration is sent
abbrev pub is_home_update : Step → Bool
is_home_update (Sends (RegistersHome home careof agent sequence)) = true
is_home_update (Sends (DeregistersHome home agent sequence)) = true
is_home_update _ = false

-- so it is, or the mobile restarts
abbrev pub ends_home_update : Step → Bool
ends_home_update (Restarts secrets) = true
ends_home_update step = is_home_update step
