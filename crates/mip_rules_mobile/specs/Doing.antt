-- What a mobile does about each call: the transition that the call is.
use Rattle.std.specs.Prelude.{ℕ, List, Option, Some, None}
use Rattle.mip_words.specs.declared.address.Address.{Address}
use Rattle.mip_words.specs.declared.why.Why.TheVariants as whys
use Rattle.mip_rules_correspondent.specs.Calls as parts
use Rattle.mip_rules_correspondent.specs.Questions.{held_of}
use Rattle.mip_rules_mobile.specs.declared.attachment.Attachment.{Attachment}
use Rattle.mip_rules_mobile.specs.declared.attachment.Attachment.TheVariants.{Detached, AtHome, Away}
use Rattle.mip_rules_mobile.specs.Calls as calls
use Rattle.mip_rules_mobile.specs.Calls.{Call}
use Rattle.mip_rules_mobile.specs.Sendings.{Given, SendsData, Solicits}
use Rattle.mip_rules_mobile.specs.Steps.{Called, Sends, Unsends}
use Rattle.mip_rules_mobile.specs.Known.{Known}
use Rattle.mip_rules_mobile.specs.HomeQuestions.{home_of, registered_agent}
use Rattle.mip_rules_mobile.specs.RowQuestions.{bound_row_of}
use Rattle.mip_rules_mobile.specs.Transitions.{Transition, begun, noted}
use Rattle.mip_rules_mobile.specs.OutRules.{goes_out, asks_part}
use Rattle.mip_rules_mobile.specs.MovingRules.{leaves, attaches, restarts}
use Rattle.mip_rules_mobile.specs.ReceivingRules.{takes}
use Rattle.mip_rules_mobile.specs.RingingRules.{ticks_all}

-- data to a peer that has the binding goes straight, from the care-of address; to another, from the home address.
-- RFC 6275 section 11.3.1
abbrev pub transmits_from : Attachment → Option ℕ → Address → ℕ → List ℕ → Transition → Transition
transmits_from (Away careof) (Some row) to proto payload t =
    noted (Sends (SendsData (home_of t.known) careof to (held_of t.known.part.known t.now to) proto payload)) t
transmits_from (Away careof) None to proto payload t = asks_part (parts.Send to proto payload) t
transmits_from Detached row to proto payload t = asks_part (parts.Send to proto payload) t
transmits_from AtHome row to proto payload t = asks_part (parts.Send to proto payload) t

unfoldable pub transmits : Address → ℕ → List ℕ → Transition → Transition
transmits to proto payload t = transmits_from t.known.standing (bound_row_of t.known t.now to) to proto payload t

-- a solicitation goes to the agent of the registration. RFC 6275 section 11.4.2
abbrev pub solicits_from : Attachment → Option Address → Transition → Transition
solicits_from (Away careof) (Some agent) t = noted (Sends (Solicits (home_of t.known) careof agent t.known.solicitations)) t
solicits_from standing agent t = noted (Unsends whys.Unregistered) t

unfoldable pub solicits : Transition → Transition
solicits t = solicits_from t.known.standing (registered_agent t.known t.now) t

-- what it does about a call that it has got
abbrev pub handles : Call → Transition → Transition
handles (calls.Attach prefix of_home of_address) t = attaches prefix of_home of_address t
handles (calls.Leave of_home) t = leaves of_home t
handles (calls.Take number shield packet) t = takes number shield packet t
handles calls.Tick t = ticks_all t
handles (calls.Send to proto payload) t = transmits to proto payload t
handles (calls.Refresh home) t = asks_part (parts.Refresh home) t
handles calls.Ask t = solicits t
handles (calls.Restart secrets) t = restarts secrets t
handles (calls.Tunnel inner) t = goes_out (Given inner) t

-- each call is a step, and what it does about it follows
unfoldable pub does : Call → Transition → Transition
does c t = handles c (noted (Called c) t)

-- the transition of a call, from what was known before it
abbrev pub transition_of : Known → ℕ → Call → Transition
transition_of k now c = does c (begun now k)
