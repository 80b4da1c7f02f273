-- How a mobile moves: a router advertises a prefix, it leaves, it restarts. RFC 6275 sections 11.5.1 to 11.5.5
use Rattle.std.specs.Prelude.{ℕ, ◌%◌, ◌^◌, Bool, false, ◌==◌, if◌then◌else◌, Option, Some, None}
use Rattle.mip_words.specs.Addresses.{joined_address, prefix_of}
use Rattle.mip_words.specs.declared.address.Address.{Address}
use Rattle.mip_nonce.specs.Secrets.{Life}
use Rattle.mip_outside.specs.declared.claim.Claim.{Claim}
use Rattle.mip_outside.specs.declared.claim.Claim.TheVariants.{Held, Waiting, Taken}
use Rattle.mip_outside.specs.Places.{is_held}
use Rattle.mip_rules_mobile.specs.declared.attachment.Attachment.{Attachment}
use Rattle.mip_rules_mobile.specs.declared.attachment.Attachment.TheVariants.{Detached, AtHome, Away}
use Rattle.mip_rules_mobile.specs.Steps.{Claims, Releases, FindsTaken, Arrives, Detaches, Restarts, Unbinds}
use Rattle.mip_rules_mobile.specs.HomeQuestions.{home_of, agent_of}
use Rattle.mip_rules_mobile.specs.RowQuestions.{peer_of_row, is_bound_row}
use Rattle.mip_rules_mobile.specs.Transitions.{Transition, noted}
use Rattle.mip_rules_mobile.specs.TrialRules.{each_row}
use Rattle.mip_rules_mobile.specs.HomeRules.{registers, deregisters_at}
pub use Rattle.mip_rules_mobile.specs.HomeRules.{registers_if_away}

-- the address that it holds is released: away, the care-of address; at home, the home address where a claim of it would be
-- granted
abbrev pub releases : Attachment → Claim → Transition → Transition
releases Detached claim t = t
releases AtHome claim t = if is_held claim then noted (Releases (home_of t.known)) t else t
releases (Away careof) claim t = noted (Releases careof) t

abbrev pub unbinds_with : Bool → Option Address → ℕ → Transition → Transition
unbinds_with bound None row t = t
unbinds_with bound (Some peer) row t = if bound then noted (Unbinds row peer) t else t

-- the binding of a row is given up, where there is one
abbrev pub unbinds : ℕ → Transition → Transition
unbinds row t = unbinds_with (is_bound_row t.known t.now row) (peer_of_row t.known row) row t

-- it leaves: it holds no address, every trial is given up, and every timer stops
unfoldable pub leaves : Claim → Transition → Transition
leaves claim t = noted Detaches (each_row unbinds (releases t.known.standing claim t))

-- at home a registration is undone, if there was one; away it is made
abbrev pub settles_at : Attachment → Transition → Transition
settles_at Detached t = t
settles_at AtHome t = if t.known.owes then deregisters_at (agent_of t.known t.now) t else t
settles_at (Away careof) t = registers careof t

unfoldable pub settles : Transition → Transition
settles t = settles_at t.known.standing t

-- the address under a prefix is claimed; a home address that the agent still holds is used while it waits
abbrev pub arrives_by : Claim → Address → Transition → Transition
arrives_by Held address t = settles (noted (Arrives address) (noted (Claims address) t))
arrives_by Waiting address t = settles (noted (Arrives address) t)
arrives_by (Taken holder) address t = noted (FindsTaken address holder) t

-- its address under a prefix has the interface of its home address
abbrev pub address_under : Address → ℕ → Address
address_under home prefix = record { 0 = joined_address prefix (home.0 % 2 ^ 64) }

unfoldable pub arrives : ℕ → Claim → Transition → Transition
arrives prefix claim t = arrives_by claim (address_under (home_of t.known) prefix) t

-- the prefix that it uses
abbrev pub uses_prefix : Attachment → Address → ℕ → Bool
uses_prefix Detached home prefix = false
uses_prefix AtHome home prefix = prefix == prefix_of home.0
uses_prefix (Away careof) home prefix = prefix == prefix_of careof.0

-- where it uses another prefix it first leaves
abbrev pub leaves_first : Attachment → Claim → Transition → Transition
leaves_first Detached claim t = t
leaves_first AtHome claim t = leaves claim t
leaves_first (Away careof) claim t = leaves claim t

-- a router advertises a prefix: nothing happens where it uses it already
unfoldable pub attaches : (prefix : ℕ) → (of_home of_address : Claim) → Transition → Transition
attaches prefix of_home of_address t =
    if uses_prefix t.known.standing (home_of t.known) prefix then t
    else arrives prefix of_address (leaves_first t.known.standing of_home t)

-- away, the new life begins with a registration
unfoldable pub restarts : Life → Transition → Transition
restarts secrets t = registers_if_away t.known.standing (noted (Restarts secrets) t)
