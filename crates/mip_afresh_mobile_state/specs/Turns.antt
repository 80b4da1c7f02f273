-- A call of a mobile under way, as contracts see it.
use Rattle.std.specs.Prelude.{◌≡◌, Result, OnOk}
use Rattle.mip_words.specs.declared.address.Address.{Address}
use Rattle.mip_rules_mobile.specs.Steps.{answers_of}
use Rattle.mip_rules_mobile.specs.Sendings.{Sending, FromHome, ByTunnel, AsksCareof, SendsData, Discovers}
use Rattle.mip_rules_mobile.specs.Transitions.{Transition}
use Rattle.mip_afresh_mobile_state.specs.declared.turn.Turn.{Turn}
use Rattle.mip_afresh_mobile_state.specs.Mobiles.{seen_of}

-- a transition at its moment: this is known as it stands, and these are its answers so far
unfoldable pub Shows : Turn → Transition → Type 0
Shows turn t = (t.now ≡ turn.now.0) × (seen_of t.known ≡ turn.mobile) × (answers_of t.steps ≡ turn.answers)

-- of each transition that shows as it was, a rule makes one that shows as it is now
abbrev pub Goes : {R E : Type 0} → Result R E → (Transition → Transition) → (old new : Turn) → Type 0
Goes result rule old new = (t : Transition) → Shows old t → OnOk result (Shows new (rule t))

-- the home address of the mobile
abbrev pub home_in : Turn → Address
home_in turn = turn.mobile.identity.own

-- a packet whose sending changes nothing of what is known
abbrev pub IsNeutral : Sending → Type 0
IsNeutral (FromHome home inner) = Unit {0}
IsNeutral (ByTunnel home careof agent inner) = Unit {0}
IsNeutral (AsksCareof careof peer cookie) = Unit {0}
IsNeutral (SendsData home careof to held proto payload) = Unit {0}
IsNeutral (Discovers home careof identifier) = Unit {0}
IsNeutral _ = ⊥
