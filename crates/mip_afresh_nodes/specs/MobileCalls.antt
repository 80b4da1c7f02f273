-- What a mobile is asked for, as a node of a run and as a mobile.
use Rattle.mip_words.specs.declared.address.Address.{Address}
use Rattle.mip_outside.specs.Places.{Around, claim_in}
use Rattle.mip_rules_mobile.specs.Calls as mobiles
use Rattle.mip_rules_mobile.specs.MovingRules.{address_under}
use Rattle.mip_history.specs.Calls as asked_for
use Rattle.mip_afresh_nodes.specs.declared.mobile_call.MobileCall.{MobileCall}
use Rattle.mip_afresh_nodes.specs.declared.mobile_call.MobileCall.TheVariants.{Tick, Attach, Leave, Ask, Restart}

abbrev pub asked_of_mobile : MobileCall → asked_for.Call
asked_of_mobile Tick = asked_for.Tick
asked_of_mobile (Attach prefix) = asked_for.Attach prefix.0
asked_of_mobile Leave = asked_for.Leave
asked_of_mobile Ask = asked_for.Ask
asked_of_mobile (Restart secrets) = asked_for.Restart secrets

-- to a mobile with this home address that finds this around it
abbrev pub call_of_mobile : Around → (home : Address) → MobileCall → mobiles.Call
call_of_mobile around home Tick = mobiles.Tick
call_of_mobile around home (Attach prefix) = mobiles.Attach prefix.0 (claim_in around home.0) (claim_in around (address_under home prefix.0).0)
call_of_mobile around home Leave = mobiles.Leave (claim_in around home.0)
call_of_mobile around home Ask = mobiles.Ask
call_of_mobile around home (Restart secrets) = mobiles.Restart secrets
