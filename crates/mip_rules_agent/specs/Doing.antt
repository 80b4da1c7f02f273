-- What a home agent does about each call: the transition that the call is.
use Rattle.std.specs.Prelude.{ℕ, List, [], ◌∷◌, Option}
use Rattle.mip_words.specs.declared.address.Address.{Address}
use Rattle.mip_words.specs.declared.shield.Shield.{Shield}
use Rattle.mip_ipv6.specs.Reading.{packet_of}
use Rattle.mip_outside.specs.declared.claim.Claim.{Claim}
use Rattle.mip_rules_agent.specs.declared.identity.Identity.{Identity}
use Rattle.mip_rules_agent.specs.declared.home_row.HomeRow.{HomeRow}
use Rattle.mip_rules_agent.specs.declared.ending.Ending.{Ending}
use Rattle.mip_rules_agent.specs.Known.{Known}
use Rattle.mip_rules_agent.specs.Calls as calls
use Rattle.mip_rules_agent.specs.Calls.{Call}
use Rattle.mip_rules_agent.specs.Steps.{Called, Releases, Rang}
use Rattle.mip_rules_agent.specs.Questions.{rows_at, due_ends}
use Rattle.mip_rules_agent.specs.Transitions.{Transition, begun, noted}
use Rattle.mip_rules_agent.specs.Rules.{Handing, advertises, receives}

-- a packet is handed to it
unfoldable pub takes : Handing → Transition → Transition
takes h t = receives h (packet_of h.bytes) t

-- at the end of its time a registration is gone, and the home address is given up: the first that is due comes first.
-- RFC 6275 section 10.3.1
abbrev pub releases_all : List Ending → Transition → Transition
releases_all [] t = t
releases_all (e ∷ es) t = releases_all es (noted (Releases e.home) t)

unfoldable pub ticks : Transition → Transition
ticks t = noted Rang (releases_all (due_ends t.now t.known.ends) t)

-- each registered home is told of the prefix, in order of address. RFC 6275 section 10.6.1
abbrev pub advertises_all : (own : Address) → Known → ℕ → List HomeRow → Transition → Transition
advertises_all own k now [] t = t
advertises_all own k now (r ∷ rows) t = advertises_all own k now rows (advertises own k now r.home r.careof 0 t)

unfoldable pub plans : Identity → Transition → Transition
plans me t = advertises_all me.own t.known t.now (rows_at t.now t.known.homes) t

abbrev pub handing : Identity → ℕ → Known → ℕ → Option Shield → List ℕ → Claim → Handing
handing me now k number shield packet claim =
    record { me = me; now = now; known = k; number = number; shield = shield; bytes = packet; claim = claim }

-- what it does about a call that it has got
abbrev pub handles : Identity → Call → Transition → Transition
handles me (calls.Take number shield packet claim) t = takes (handing me t.now t.known number shield packet claim) t
handles me calls.Tick t = ticks t
handles me (calls.Plan valid preferred) t = plans me t
handles me (calls.Hear agent preference life) t = t

-- each call is a step, and what it does about it follows
unfoldable pub does : Identity → Call → Transition → Transition
does me c t = handles me c (noted (Called c) t)

-- the transition of a call, from what was known before it
abbrev pub transition_of : Identity → Known → ℕ → Call → Transition
transition_of me k now c = does me c (begun now k)
