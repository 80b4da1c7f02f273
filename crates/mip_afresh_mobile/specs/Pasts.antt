-- The calls that a mobile was given, and its past by them.
use Rattle.std.specs.Prelude.{ℕ, List, [], ◌∷◌, fold, Option, Some, None}
use Rattle.mip_words.specs.declared.address.Address.{Address}
use Rattle.mip_nonce.specs.Secrets.{Life}
use Rattle.mip_rules_mobile.specs.Calls as calls
use Rattle.mip_rules_mobile.specs.Calls.{Call}
use Rattle.mip_rules_mobile.specs.Steps.{Detaches}
use Rattle.mip_afresh_mobile_state.specs.Mobiles.{MobileSeen}
use Rattle.mip_afresh_mobile.specs.declared.called.Asked.{Asked}
use Rattle.mip_afresh_mobile.specs.declared.called.Asked.TheVariants.{Take, Send, Refresh, Tick, Attach, Leave, Ask, Restart}
use Rattle.mip_afresh_mobile.specs.declared.called.Called.{Called}
use Rattle.mip_afresh_mobile.specs.Nodes.{NodeSeen, after_call}

abbrev pub call_of : Asked → Call
call_of (Take number shield packet) = calls.Take number shield packet
call_of (Send to proto payload) = calls.Send to proto payload
call_of (Refresh home) = calls.Refresh home
call_of Tick = calls.Tick
call_of (Attach prefix of_home of_address) = calls.Attach prefix.0 of_home of_address
call_of (Leave of_home) = calls.Leave of_home
call_of Ask = calls.Ask
call_of (Restart secrets) = calls.Restart secrets

-- one call more
abbrev pub with_called : NodeSeen → Called → NodeSeen
with_called m c = after_call m c.at.0 (call_of c.asked)

-- the secrets that were given first
abbrev pub first_secrets : List Life → Life
first_secrets [] = record { seed = []; node = 0; life = 0 }
first_secrets (secrets ∷ more) = secrets

-- before the first call
abbrev pub new_node : Address → Option Address → (numbers : ℕ) → Life → NodeSeen
new_node home declared numbers secrets = record { home = home; declared = declared; numbers = numbers; secrets = secrets; past = [] }

abbrev pub node_of : Address → Option Address → (numbers : ℕ) → Life → List Called → NodeSeen
node_of home declared numbers secrets called = fold with_called (new_node home declared numbers secrets) called

-- after a call that found no memory nothing is known of a mobile: it is as one that left
abbrev pub lost : NodeSeen → NodeSeen
lost m = record {
  home = m.home;
  declared = m.declared;
  numbers = m.numbers;
  secrets = m.secrets;
  past = record { at = 0; step = Detaches } ∷ [];
}

abbrev pub node_left : Option MobileSeen → NodeSeen → NodeSeen
node_left None m = lost m
node_left (Some known) m = m
